use Rattle.std.proofs.Common.{◌≡◌, List, ℕ, ap, ◌∙◌, append_assoc}
use Rattle.std.specs.Prelude.{codes}
use Rattle.rad_pairs.specs.ValueText.{attr_text, value_text, pair_text}
use Rattle.rad_pairs.specs.Items.{items_of}
use Rattle.rad_pairs.proofs.ReadBack.{read_back}
use Rattle.rad_pairs.proofs.printing.print_pair.Goals as goal

pub returns-clause-read_back : goal.returns-clause-read_back
returns-clause-read_back c kind =
    let printed : c.from_vec.result ≡ pair_text c.args.pair.now c.args.dict.now =
    rw (c.from_vec.ensures, c.in_ok-put_value.ensures.text, c.in_ok-extend_from_slice.ensures.items, c.in_ok-put_attr.ensures.text, c.new-text.ensures.items)
    (append_assoc (attr_text c.args.pair.now.attr c.args.dict.now) (codes " = ") (value_text c.args.pair.now.attr c.args.pair.now.value c.args.dict.now))
    in
    ap (λ (text : List ℕ). items_of text c.args.dict.now) printed
    ∙ read_back c.args.pair.now c.args.dict.now c.each_name_means_one_thing.ensures (record { kind = kind; value = c.in_ok-put_value.ensures.range; space = c.put_attr.ensures.range })
