-- What a history counts, over what is added.
use Rattle.std.proofs.Common.{ℕ, ◌≡◌, ◌≤◌, ◌+◌, ◌-◌, ◌++◌, List, [], ◌∷◌, drop, Bool, false, cond, Result, length, refl, ap, sym, ◌∙◌, subst, length-append, append_assoc, arith}
use Rattle.std.proofs.Math.Seq.{drop-append_seam}
use Rattle.std.specs.List.{count_by}
use Rattle.std.proofs.lemmas.List.Sums.{count_by-le-length, sum_by_push, sum_by-append}
use Rattle.rad_outside.specs.declared.listen.Listen.{Listen}
use Rattle.rad_core.specs.declared.installed.Installed.{Installed}
use Rattle.rad_core.specs.declared.installed.Installed.TheVariants as installed
use Rattle.rad_core.specs.declared.entry.Entry.{Entry}
use Rattle.rad_core.specs.declared.entry.Entry.TheVariants.{Install}
use Rattle.rad_build.specs.declared.fault.BuildFault.{BuildFault}
use Rattle.rad_site.specs.Site.{Site}
use Rattle.rad_serve.specs.declared.counts.Counts.{Counts}
use Rattle.rad_serve.specs.declared.counts.Tally.{Tally}
use Rattle.rad_serve.specs.Counting.{counts_of, counts_between, tally_of, with_load, is_request, is_reply, is_install, is_refusal, leaves_present}
use Rattle.rad_serve.specs.Installing.{is_present_by}
use Rattle.rad_serve.specs.History.{IsNumbered}

-- one item more counts where it passes the test
count_by-push : {X : Type 0} (test : X → Bool) (xs : List X) (x : X) → count_by test (xs ++ x ∷ []) ≡ count_by test xs + cond (test x) 1 0
count_by-push test xs x = sum_by_push (λ y. cond (test y) 1 0) xs x

-- a tally of these numbers
abbrev pub tally : ℕ → ℕ → ℕ → ℕ → Tally
tally requests replies installs refused = record { requests = requests; replies = replies; installs = installs; refused = refused }

-- numbers that are the same make the same tally
pub same_tally : (a b c d e f g h : ℕ) → a ≡ e → b ≡ f → c ≡ g → d ≡ h → tally a b c d ≡ tally e f g h
same_tally a b c d e f g h p q r s = ap (λ n. tally n b c d) p ∙ ap (λ n. tally e n c d) q ∙ ap (λ n. tally e f n d) r ∙ ap (λ n. tally e f g n) s

-- what one entry more counts
pub tally_push : (before after : List (Entry Site BuildFault)) (entry : Entry Site BuildFault) → after ≡ before ++ entry ∷ []
    → tally_of after ≡ tally (count_by is_request before + cond (is_request entry) 1 0) (count_by is_reply before + cond (is_reply entry) 1 0) (count_by is_install before + cond (is_install entry) 1 0) (count_by is_refusal before + cond (is_refusal entry) 1 0)
tally_push before after entry grows = ap tally_of grows
    ∙ same_tally _ _ _ _ _ _ _ _ (count_by-push is_request before entry) (count_by-push is_reply before entry) (count_by-push is_install before entry) (count_by-push is_refusal before entry)

-- a tally that counts nothing more
pub tally_still : (before after : List (Entry Site BuildFault)) (entry : Entry Site BuildFault) → after ≡ before ++ entry ∷ [] → is_request entry ≡ false → is_reply entry ≡ false → is_install entry ≡ false → is_refusal entry ≡ false → tally_of after ≡ tally_of before
tally_still before after entry grows a b c d = tally_push before after entry grows
    ∙ same_tally _ _ _ _ (count_by is_request before) (count_by is_reply before) (count_by is_install before) (count_by is_refusal before) (nothing (is_request entry) (count_by is_request before) a) (nothing (is_reply entry) (count_by is_reply before) b) (nothing (is_install entry) (count_by is_install before) c) (nothing (is_refusal entry) (count_by is_refusal before) d)
  where
    nothing : (b : Bool) (n : ℕ) → b ≡ false → n + cond b 1 0 ≡ n
    nothing b n e = ap (λ (t : Bool). n + cond t 1 0) e ∙ omega arith

-- one entry more
pub length_push : (before after : List (Entry Site BuildFault)) (entry : Entry Site BuildFault) → after ≡ before ++ entry ∷ [] → length after ≡ length before + 1
length_push before after entry grows = ap length grows ∙ length-append before (entry ∷ [])

-- a history's tally is at most its length
pub few_requests : (history : List (Entry Site BuildFault)) (count : ℕ) (counted : Tally) → IsNumbered history count counted → (counted.requests ≤ length history) × (counted.replies ≤ length history) × (counted.installs ≤ length history) × (counted.refused ≤ length history)
few_requests history count counted numbered =
    subst (λ (t : Tally). (t.requests ≤ length history) × (t.replies ≤ length history) × (t.installs ≤ length history) × (t.refused ≤ length history)) (sym numbered.tally_is)
    (count_by-le-length is_request history, count_by-le-length is_reply history, count_by-le-length is_install history, count_by-le-length is_refusal history)

-- a load counts as one that is the present generation, or as one that was refused
pub tally_load : (before after : List (Entry Site BuildFault)) (worker : ℕ) (load : Result Site BuildFault) (listeners : List Listen) (answer : Installed BuildFault) → after ≡ before ++ Install worker load listeners answer ∷ [] → tally_of after ≡ with_load (is_present_by answer) (tally_of before)
tally_load before after worker load listeners answer more = tally_push before after (Install worker load listeners answer) more
    ∙ same_tally (count_by is_request before + 0) (count_by is_reply before + 0) _ _ (count_by is_request before) (count_by is_reply before) _ _ (omega arith) (omega arith) refl (ap (λ n. count_by is_refusal before + n) (refused answer))
  where
    refused : (told : Installed BuildFault) → cond {A = ℕ} (leaves_present told) 1 0 ≡ cond {A = ℕ} (is_present_by told) 0 1
    refused (installed.Generation number) = refl
    refused (installed.Refused fault) = refl
    refused (installed.ListenerGone name) = refl

-- what was counted since, where the one list is the other with more behind it
counted_since : {X : Type 0} (test : X → Bool) (before now more : List X) → now ≡ before ++ more → count_by test now - count_by test before ≡ count_by test more
counted_since test before now more grows = let whole : count_by test now ≡ count_by test before + count_by test more = ap (count_by test) grows ∙ sum_by-append (λ x. cond (test x) 1 0) before more in omega (arith, whole)

-- counts of these numbers
abbrev counts : ℕ → ℕ → ℕ → ℕ → Counts
counts requests replies reloads refused = record { requests = requests; replies = replies; reloads = reloads; refused = refused }

same_counts : (a b c d e f g h : ℕ) → a ≡ e → b ≡ f → c ≡ g → d ≡ h → counts a b c d ≡ counts e f g h
same_counts a b c d e f g h p q r s = ap (λ n. counts n b c d) p ∙ ap (λ n. counts e n c d) q ∙ ap (λ n. counts e f n d) r ∙ ap (λ n. counts e f g n) s

-- the counts of a run are those of the entries that it added, whose first is its first load
pub counts_apart : (before mid now added rest : List (Entry Site BuildFault)) (first : Entry Site BuildFault) → mid ≡ before ++ first ∷ [] → now ≡ mid ++ rest → now ≡ before ++ added → counts_between (tally_of before) (tally_of mid) (tally_of now) ≡ counts_of added
counts_apart before mid now added rest first loaded served grows =
    let whole : now ≡ before ++ (first ∷ rest) = served ∙ ap (λ h. h ++ rest) loaded ∙ append_assoc before (first ∷ []) rest in
    let same : added ≡ first ∷ rest = sym (drop-append_seam before added) ∙ ap (drop (length before)) (sym grows ∙ whole) ∙ drop-append_seam before (first ∷ rest) in
    same_counts _ _ _ _ _ _ _ _ (counted_since is_request before now (first ∷ rest) whole) (counted_since is_reply before now (first ∷ rest) whole) (counted_since is_install mid now rest served) (counted_since is_refusal before now (first ∷ rest) whole)
    ∙ ap counts_of (sym same)

-- the counts between equal tallies
pub between : (before loaded now before_is loaded_is now_is : Tally) → before ≡ before_is → loaded ≡ loaded_is → now ≡ now_is → counts_between before loaded now ≡ counts_between before_is loaded_is now_is
between before loaded now before_is loaded_is now_is p q r = ap (λ (t : Tally). counts_between t loaded now) p ∙ ap (λ (t : Tally). counts_between before_is t now) q ∙ ap (λ (t : Tally). counts_between before_is loaded_is t) r
