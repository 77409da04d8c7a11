-- What becomes of an access request: where it was let in, post-auth runs; a rejected one keeps its messages alone, and then
-- Post-Auth-Type REJECT runs. This project's own, after FreeRADIUS.
use Rattle.std.specs.Prelude.{ℕ, List, Option, Some, None, codes, filter}
use Rattle.rad_words.specs.declared.codes.Code.{Code}
use Rattle.rad_words.specs.declared.codes.Code.TheVariants as code
use Rattle.rad_words.specs.declared.sections.Section.TheVariants.{PostAuth}
use Rattle.rad_value.specs.declared.edits.ListName.TheVariants.{Reply}
use Rattle.rad_value.specs.declared.values.Pair.{Pair}
use Rattle.rad_value.specs.Pairs.{is_of}
use Rattle.rad_dict.specs.Definitions.{Definitions}
use Rattle.mod_base.specs.Situation.{Situation}
use Rattle.mod_lists.specs.Done.{with_lists}
use Rattle.mod_filter.specs.Sieve.{sifted}
use Rattle.unlang_code.specs.declared.section_id.SectionId.{SectionId}
use Rattle.rad_access.specs.declared.verdict.Verdict.{Verdict}
use Rattle.rad_access.specs.declared.verdict.Verdict.TheVariants as verdict
use Rattle.rad_access.specs.Attributes.{reply_message}
use Rattle.rad_access.specs.Policies.{Policies}
use Rattle.rad_access.specs.Access.{section_named, done_in, let_in}

-- What post-auth makes of an accepted request by its code.
abbrev pub after_post_auth : Code → Verdict
after_post_auth code.Reject = verdict.Reject
after_post_auth code.Fail = verdict.Reject
after_post_auth code.Ok = verdict.Accept
after_post_auth code.Handled = verdict.Withhold
after_post_auth code.Invalid = verdict.Reject
after_post_auth code.Userlock = verdict.Reject
after_post_auth code.Notfound = verdict.Accept
after_post_auth code.Noop = verdict.Accept
after_post_auth code.Updated = verdict.Accept

-- What Post-Auth-Type REJECT makes of a rejected request by its code: it stays rejected, whatever the code, or no reply is sent.
abbrev pub after_reject : Code → Verdict
after_reject code.Reject = verdict.Reject
after_reject code.Fail = verdict.Reject
after_reject code.Ok = verdict.Reject
after_reject code.Handled = verdict.Withhold
after_reject code.Invalid = verdict.Reject
after_reject code.Userlock = verdict.Reject
after_reject code.Notfound = verdict.Reject
after_reject code.Noop = verdict.Reject
after_reject code.Updated = verdict.Reject

-- The section post-auth of a server.
abbrev pub post_auth_of : Policies → List ℕ → Option SectionId
post_auth_of policies server = section_named policies.table server PostAuth None

-- The subsection `Post-Auth-Type REJECT` of a server's post-auth.
abbrev pub reject_of : Policies → List ℕ → Option SectionId
reject_of policies server = section_named policies.table server PostAuth (Some (codes "REJECT"))

-- What becomes of an accepted request by post-auth, where the server has it.
abbrev pub posted_by : Policies → Definitions → Option SectionId → Situation → Situation × Verdict
posted_by policies dict None s = (s, verdict.Accept)
posted_by policies dict (Some id) s = let done = done_in policies dict id s in (done.0, after_post_auth done.1)

-- What becomes of an accepted request.
abbrev pub posted : Policies → Definitions → List ℕ → Situation → Situation × Verdict
posted policies dict server s = posted_by policies dict (post_auth_of policies server) s

-- What becomes of a request that was accepted or not: post-auth runs for an accepted one alone.
abbrev pub posted_for : Policies → Definitions → List ℕ → Verdict → Situation → Situation × Verdict
posted_for policies dict server verdict.Accept s = posted policies dict server s
posted_for policies dict server verdict.Reject s = (s, verdict.Reject)
posted_for policies dict server verdict.Withhold s = (s, verdict.Withhold)

-- The pairs that a rejected request keeps for its reply: Reply-Message alone.
abbrev pub kept : List Pair → List Pair
kept pairs = filter (is_of reply_message) pairs

-- The situation of a rejected request: its reply list keeps its messages alone, and the other lists are as they were.
abbrev pub with_messages : Situation → Situation
with_messages s = record s { scope = with_lists s.scope (sifted (is_of reply_message) Reply s.scope.lists) }

-- What becomes of a rejected request by Post-Auth-Type REJECT, where the server has it.
abbrev pub refused_by : Policies → Definitions → Option SectionId → Situation → Situation × Verdict
refused_by policies dict None s = (s, verdict.Reject)
refused_by policies dict (Some id) s = let done = done_in policies dict id s in (done.0, after_reject done.1)

-- What becomes of a rejected request.
abbrev pub refused : Policies → Definitions → List ℕ → Situation → Situation × Verdict
refused policies dict server s = refused_by policies dict (reject_of policies server) (with_messages s)

-- What becomes of a request that is rejected or not: an accepted one, and one whose reply is withheld, stay as they are.
abbrev pub refused_for : Policies → Definitions → List ℕ → Verdict → Situation → Situation × Verdict
refused_for policies dict server verdict.Accept s = (s, verdict.Accept)
refused_for policies dict server verdict.Reject s = refused policies dict server s
refused_for policies dict server verdict.Withhold s = (s, verdict.Withhold)

-- What becomes of a request behind authenticate.
abbrev pub behind_let_in : Policies → Definitions → List ℕ → Verdict → Situation → Situation × Verdict
behind_let_in policies dict server verdict s =
    let done = posted_for policies dict server verdict s in refused_for policies dict server done.1 done.0

-- The situation at the end of a request to a server, and what became of it: authorize and authenticate let it in or not; then
-- post-auth runs, where it was let in; and then what is done for a rejected one.
unfoldable pub decided : Policies → Definitions → List ℕ → Situation → Situation × Verdict
decided policies dict server s =
    let done = let_in policies dict server s in behind_let_in policies dict server done.1 done.0
