use Rattle.std.proofs.Common.{◌≡◌, Bool, true, map, sym, ap, ◌∙◌, rules}
use Rattle.mod_users.specs.declared.search.Next.TheVariants as next
use Rattle.mod_users.specs.Files.{code_of, files_done}
use Rattle.mod_users.specs.Search.{name_key, entry_key, row_key, default_key}
use Rattle.mod_users.specs.Rows.{entries_in}
use Rattle.mod_users.proofs.RowLemmas.{row_keys}
use Rattle.mod_users.proofs.Searching.{starts, ends, is_there, behind, ended, goes_by, goes_on, places_start, run_of}
use Rattle.mod_users.proofs.users.Users.do_entries.Goals as goal

pub loop-place-init : goal.loop-place-init
loop-place-init c =
    let rows = entries_in c.as_slice-rows.result.now in
    let key = c.args.key.now in
    let dict = c.args.dict.now in
    let lists = c.args.lists.now in
    let same : rows ≡ c.args.self.now = search rules in
    let keys : c.self.inside.names ≡ map entry_key rows = c.self.invariant.names ∙ ap (map row_key) (sym c.as_slice-rows.ensures.value) ∙ row_keys c.as_slice-rows.result.now in
    starts rows key dict c.places-named.result.now c.places-others.result.now lists (files_done c.args.self.now key dict lists)
    (places_start c.name_key.result (name_key key) c.self.inside.names c.places-named.result.now rows c.places-named.ensures c.name_key.ensures keys)
    (places_start c.default_key.result default_key c.self.inside.names c.places-others.result.now rows c.places-others.ensures c.default_key.ensures keys)
    (run_of c.args.self.now rows key dict lists same)

pub returns-in_default-row_at : goal.returns-in_default-row_at
returns-in_default-row_at c =
    let l = c.loop-place in
    let total = files_done c.args.self.now c.args.key.now c.args.dict.now c.args.lists.now in
    absurd (is_there (entries_in c.as_slice-rows.result.now) c.args.key.now c.args.dict.now l.named.now l.others.now c.in-Some.place c.in-Some.more_named.now c.in-Some.more_others.now l.found l.lists total
    (sym c.in-Some.ensures.exact) l.invariant (sym c.in_default-row_at.ensures.entry))

pub returns-in-Ends : goal.returns-in-Ends
returns-in-Ends c =
    let l = c.loop-place in
    let total = files_done c.args.self.now c.args.key.now c.args.dict.now c.args.lists.now in
    let is : c.in_ok-try_row.field-0 ≡ next.Ends c.in-Ends.code = cc in
    let back = behind (entries_in c.as_slice-rows.result.now) c.args.key.now c.args.dict.now l.named.now l.others.now c.in-Some.place c.in-Some.more_named.now c.in-Some.more_others.now l.found l.lists total c.in-Some-row_at.row.now.entry
    (c.try_row.new.lists, c.in_ok-try_row.field-0) (sym c.in-Some.ensures.exact) l.invariant (sym c.in-Some-row_at.ensures.entry) c.in_ok-try_row.ensures in
    ended (entries_in c.as_slice-rows.result.now) c.args.key.now c.args.dict.now c.in-Some.place c.in-Some.more_named.now c.in-Some.more_others.now l.found c.try_row.new.lists c.in_ok-try_row.field-0 c.in-Ends.code total is back

pub loop-place-preserved-in-Passed : goal.loop-place-preserved-in-Passed
loop-place-preserved-in-Passed c =
    let l = c.loop-place in
    let total = files_done c.args.self.now c.args.key.now c.args.dict.now c.args.lists.now in
    let is : c.in_ok-try_row.field-0 ≡ next.Passed = cc in
    let back = behind (entries_in c.as_slice-rows.result.now) c.args.key.now c.args.dict.now l.named.now l.others.now c.in-Some.place c.in-Some.more_named.now c.in-Some.more_others.now l.found l.lists total c.in-Some-row_at.row.now.entry
    (c.try_row.new.lists, c.in_ok-try_row.field-0) (sym c.in-Some.ensures.exact) l.invariant (sym c.in-Some-row_at.ensures.entry) c.in_ok-try_row.ensures in
    goes_by (entries_in c.as_slice-rows.result.now) c.args.key.now c.args.dict.now c.in-Some.place c.in-Some.more_named.now c.in-Some.more_others.now l.found c.try_row.new.lists c.in_ok-try_row.field-0 total is back

pub loop-place-preserved : goal.loop-place-preserved
loop-place-preserved c =
    let l = c.loop-place in
    let total = files_done c.args.self.now c.args.key.now c.args.dict.now c.args.lists.now in
    let is : c.in_ok-try_row.field-0 ≡ next.Through = cc in
    let back = behind (entries_in c.as_slice-rows.result.now) c.args.key.now c.args.dict.now l.named.now l.others.now c.in-Some.place c.in-Some.more_named.now c.in-Some.more_others.now l.found l.lists total c.in-Some-row_at.row.now.entry
    (c.try_row.new.lists, c.in_ok-try_row.field-0) (sym c.in-Some.ensures.exact) l.invariant (sym c.in-Some-row_at.ensures.entry) c.in_ok-try_row.ensures in
    goes_on (entries_in c.as_slice-rows.result.now) c.args.key.now c.args.dict.now c.in-Some.place c.in-Some.more_named.now c.in-Some.more_others.now l.found c.try_row.new.lists c.in_ok-try_row.field-0 total is back

pub returns-then-found : goal.returns-then-found
returns-then-found c =
    let l = c.loop-place in
    let total = files_done c.args.self.now c.args.key.now c.args.dict.now c.args.lists.now in
    ap (λ (b : Bool). (l.lists, code_of b true)) (sym c.if-found.true)
    ∙ ends (entries_in c.as_slice-rows.result.now) c.args.key.now c.args.dict.now l.named.now l.others.now l.found l.lists total (sym c.in_default.ensures.exact) l.invariant

pub returns-else-found : goal.returns-else-found
returns-else-found c =
    let l = c.loop-place in
    let total = files_done c.args.self.now c.args.key.now c.args.dict.now c.args.lists.now in
    ap (λ (b : Bool). (l.lists, code_of b true)) (sym c.if-found.false)
    ∙ ends (entries_in c.as_slice-rows.result.now) c.args.key.now c.args.dict.now l.named.now l.others.now l.found l.lists total (sym c.in_default.ensures.exact) l.invariant
