use Rattle.std.proofs.Common.{◌≡◌, drop}
use Rattle.unlang_code.specs.Judgement.{overridden}
use Rattle.unlang_code.proofs.judgement.overridden.Given as goal

-- the later overrides, behind the action so far, give what all of them give
abbrev pub invariant-loop-item : goal.invariant-loop-item
invariant-loop-item l = overridden (drop l.item-index l.overrides) l.code l.action ≡ overridden l.overrides l.code l.fn.default
