-- An order as the server's clauses see it. This project's own.
use Rattle.std.specs.Prelude.{ℕ, List}
use Rattle.radiusd.specs.declared.order.Task.{Task}

-- What is to be done, and the folder of the site for which it is.
pub record OrderSeen : Type 0 where
  pub task : Task
  pub folder : List ℕ
