use Rattle.std.proofs.Common.{List, ℕ, ◌++◌, ap, ◌∙◌, append_assoc}
use Rattle.std.specs.Prelude.{codes}
use Rattle.std.specs.List.{flat_map}
use Rattle.rad_pairs.specs.ValueText.{two_digits, hexadecimal}
use Rattle.unlang_xlat.proofs.values.put_octets.Goals as goal

pub returns : goal.returns
unfolding hexadecimal
returns c =
    let digits = flat_map two_digits c.args.octets.now in
    c.in_ok-put_hexadecimal.ensures ∙ ap (λ (text : List ℕ). text ++ digits) c.in_ok-put.ensures ∙ append_assoc c.args.text.now.items (codes "0x") digits
