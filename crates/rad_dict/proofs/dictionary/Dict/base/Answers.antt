use Rattle.rad_dict.proofs.BaseDictionary.{base_is}
use Rattle.rad_dict.proofs.dictionary.Dict.base.Goals as goal

pub invariant_of-result : goal.invariant_of-result
invariant_of-result c = rw (c.in_ok-attrs.ensures.ok, c.in_ok-values.ensures.ok, c.in_ok-base_attrs.ensures, c.in_ok-base_values.ensures) base_is
