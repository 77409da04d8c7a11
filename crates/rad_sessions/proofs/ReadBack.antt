-- Lines that are written and read again.
use Rattle.std.proofs.Common.{◌≡◌, ℕ, ◌^◌, ◌<◌, true, false, cond, List, [], ◌∷◌, ◌++◌, Option, Some, None, refl, sym, ap, ◌∙◌, arith}
use Rattle.std.specs.Fmt.{decimal}
use Rattle.std.specs.Option.{option_map, is_some, unwrap_or}
use Rattle.std.specs.Str.{bytes_eq}
use Rattle.std.proofs.lemmas.Bool.{cond-true, true≢false}
use Rattle.std.proofs.lemmas.Slice.Eq.{bytes_eq-Decides}
use Rattle.rad_text.specs.Addresses.{dotted}
use Rattle.rad_text.specs.Find.{◌>>=◌}
use Rattle.rad_text.proofs.AddressLaws.{address_again}
use Rattle.rad_text.proofs.Decimals.{number_again}
use Rattle.rad_sessions.specs.declared.session.Session.{Session}
use Rattle.rad_sessions.specs.declared.change.Change.{Change}
use Rattle.rad_sessions.specs.declared.change.Change.TheVariants.{Begin, Renew, End, Clear}
use Rattle.rad_sessions.specs.Log.{fields_of, line_of, hex_word, octets_of, address_at, number_at, session_at, begin_at, renew_at, end_at, clear_at, fields_at, guess_of, if_written, change_of}
use Rattle.rad_sessions.specs.Laws.{AreOctets, IsSession, IsChange}
use Rattle.rad_sessions.proofs.Words.{IsWord, cut_behind, decimal_word, dotted_word, hex_is_word, octets_again, seconds_again}

address_word : (address : ℕ) (rest : List ℕ) → address < 2 ^ 32 → address_at (dotted address ++ 32 ∷ rest) ≡ Some (address, rest)
unfolding address_at
address_word a rest lt = rw (cut_behind 32 (dotted a) rest (omega arith) (dotted_word a lt), address_again a lt) refl

number_word : (n : ℕ) (rest : List ℕ) → n < 2 ^ 32 → number_at (decimal n ++ 32 ∷ rest) ≡ Some (n, rest)
unfolding number_at
number_word n rest lt = rw (cut_behind 32 (decimal n) rest (omega arith) (decimal_word n (omega arith)), number_again n lt) refl

hex_again : (octets rest : List ℕ) → AreOctets octets → octets_of (hex_word octets) ≡ octets
hex_again octets rest all = octets_again octets all

session_again : (s : Session) → IsSession s → session_at (fields_of s) ≡ Some s
unfolding session_at
session_again s all =
    rw (
      address_word s.nas (decimal s.port ++ 32 ∷ (dotted s.framed ++ 32 ∷ (decimal s.since ++ 32 ∷ (hex_word s.user ++ 32 ∷ (hex_word s.id ++ 32 ∷ 46 ∷ []))))) all.nas,
      number_word s.port (dotted s.framed ++ 32 ∷ (decimal s.since ++ 32 ∷ (hex_word s.user ++ 32 ∷ (hex_word s.id ++ 32 ∷ 46 ∷ [])))) all.port,
      address_word s.framed (decimal s.since ++ 32 ∷ (hex_word s.user ++ 32 ∷ (hex_word s.id ++ 32 ∷ 46 ∷ []))) all.framed,
      cut_behind 32 (decimal s.since) (hex_word s.user ++ 32 ∷ (hex_word s.id ++ 32 ∷ 46 ∷ [])) (omega arith) (decimal_word s.since all.since),
      cut_behind 32 (hex_word s.user) (hex_word s.id ++ 32 ∷ 46 ∷ []) (omega arith) (hex_is_word s.user),
      cut_behind 32 (hex_word s.id) (46 ∷ []) (omega arith) (hex_is_word s.id),
      seconds_again s.since all.since,
      octets_again s.user all.user,
      octets_again s.id all.id,
    ) refl

renew_again : (nas port framed : ℕ) → nas < 2 ^ 32 → port < 2 ^ 32 → framed < 2 ^ 32 → renew_at (dotted nas ++ 32 ∷ (decimal port ++ 32 ∷ (dotted framed ++ 32 ∷ 46 ∷ []))) ≡ Some (Renew nas port framed)
unfolding renew_at
renew_again nas port framed n p f =
    rw (address_word nas (decimal port ++ 32 ∷ (dotted framed ++ 32 ∷ 46 ∷ [])) n, number_word port (dotted framed ++ 32 ∷ 46 ∷ []) p, address_word framed (46 ∷ []) f) refl

end_again : (nas port : ℕ) → nas < 2 ^ 32 → port < 2 ^ 32 → end_at (dotted nas ++ 32 ∷ (decimal port ++ 32 ∷ 46 ∷ [])) ≡ Some (End nas port)
unfolding end_at
end_again nas port n p = rw (address_word nas (decimal port ++ 32 ∷ 46 ∷ []) n, number_word port (46 ∷ []) p) refl

clear_again : (nas : ℕ) → nas < 2 ^ 32 → clear_at (dotted nas ++ 32 ∷ 46 ∷ []) ≡ Some (Clear nas)
unfolding clear_at
clear_again nas n = rw (address_word nas (46 ∷ []) n) refl

-- A line by its first word.
by_word : (c : ℕ) (word rest : List ℕ) → IsWord (c ∷ word) → guess_of ((c ∷ word) ++ 32 ∷ rest) ≡ fields_at c rest
unfolding guess_of
by_word c word rest all = rw (cut_behind 32 (c ∷ word) rest (omega arith) all) refl

begin_fields : (rest : List ℕ) → fields_at 98 rest ≡ begin_at rest
unfolding fields_at
begin_fields rest = refl

renew_fields : (rest : List ℕ) → fields_at 114 rest ≡ renew_at rest
unfolding fields_at
renew_fields rest = refl

end_fields : (rest : List ℕ) → fields_at 101 rest ≡ end_at rest
unfolding fields_at
end_fields rest = refl

clear_fields : (rest : List ℕ) → fields_at 99 rest ≡ clear_at rest
unfolding fields_at
clear_fields rest = refl

guessed : (change : Change) → IsChange change → guess_of (line_of change) ≡ Some change
unfolding line_of
guessed (Begin s) all =
    by_word 98 (101 ∷ 103 ∷ 105 ∷ 110 ∷ []) (fields_of s) (omega arith, (omega arith, (omega arith, (omega arith, (omega arith, tt)))))
    ∙ begin_fields (fields_of s) ∙ ap (option_map Begin) (session_again s all)
guessed (Renew nas port framed) all =
    by_word 114 (101 ∷ 110 ∷ 101 ∷ 119 ∷ []) (dotted nas ++ 32 ∷ (decimal port ++ 32 ∷ (dotted framed ++ 32 ∷ 46 ∷ []))) (omega arith, (omega arith, (omega arith, (omega arith, (omega arith, tt)))))
    ∙ renew_fields (dotted nas ++ 32 ∷ (decimal port ++ 32 ∷ (dotted framed ++ 32 ∷ 46 ∷ []))) ∙ renew_again nas port framed all.0 all.1 all.2
guessed (End nas port) all =
    by_word 101 (110 ∷ 100 ∷ []) (dotted nas ++ 32 ∷ (decimal port ++ 32 ∷ 46 ∷ [])) (omega arith, (omega arith, (omega arith, tt)))
    ∙ end_fields (dotted nas ++ 32 ∷ (decimal port ++ 32 ∷ 46 ∷ [])) ∙ end_again nas port all.0 all.1
guessed (Clear nas) all =
    by_word 99 (108 ∷ 101 ∷ 97 ∷ 114 ∷ []) (dotted nas ++ 32 ∷ 46 ∷ []) (omega arith, (omega arith, (omega arith, (omega arith, (omega arith, tt)))))
    ∙ clear_fields (dotted nas ++ 32 ∷ 46 ∷ []) ∙ clear_again nas all

same_line : (line : List ℕ) → bytes_eq line line ≡ true
same_line line = (bytes_eq-Decides line line).1 refl

pub read_back : (change : Change) → IsChange change → change_of (line_of change) ≡ Some change
unfolding change_of
read_back change all = rw (guessed change all) (cond-true (bytes_eq (line_of change) (line_of change)) _ _ (same_line (line_of change)))

exactly : (line : List ℕ) (guess : Option Change) (change : Change) → (guess >>= if_written line) ≡ Some change → line ≡ line_of change
exactly line None change said = absurd (true≢false (sym (ap is_some said)))
exactly line (Some guess) change said = (elim (bytes_eq (line_of guess) line) as (λ b. bytes_eq (line_of guess) line ≡ b → cond b (Some guess) None ≡ Some change → line ≡ line_of change) [
  | true ↦ λ e is. sym ((bytes_eq-Decides (line_of guess) line).0 e) ∙ ap (λ o. line_of (unwrap_or o guess)) is
  | false ↦ λ e is. absurd (true≢false (sym (ap is_some is)))
]) refl said

pub written_exactly : (line : List ℕ) (change : Change) → change_of line ≡ Some change → line ≡ line_of change
unfolding change_of
written_exactly line change said = exactly line (guess_of line) change said
