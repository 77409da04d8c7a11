-- The three lists of pairs that a policy works on: the request's, the reply's and the control list
-- (unlang(5), 'update').
use Rattle.std.specs.Prelude.{Bool, true, false, List, []}
use Rattle.rad_value.specs.declared.values.Pair.{Pair}
use Rattle.rad_value.specs.declared.edits.ListName.{ListName}
use Rattle.rad_value.specs.declared.edits.ListName.TheVariants.{Request, Reply, Control}

-- The three lists of pairs of a request.
pub record PairLists : Type 0 where
  pub request : List Pair
  pub reply : List Pair
  pub control : List Pair

-- The list of this name.
abbrev pub list_of : PairLists → ListName → List Pair
list_of lists Request = lists.request
list_of lists Reply = lists.reply
list_of lists Control = lists.control

-- The three lists with this one in the place of the list of this name.
abbrev pub with_list : PairLists → ListName → List Pair → PairLists
with_list lists Request pairs = record lists { request = pairs }
with_list lists Reply pairs = record lists { reply = pairs }
with_list lists Control pairs = record lists { control = pairs }

-- Whether two lists are the same.
abbrev pub same_list : ListName → ListName → Bool
same_list Request Request = true
same_list Request Reply = false
same_list Request Control = false
same_list Reply Request = false
same_list Reply Reply = true
same_list Reply Control = false
same_list Control Request = false
same_list Control Reply = false
same_list Control Control = true

-- Three lists without a pair.
abbrev pub no_pairs : PairLists
no_pairs = record {
  request = [];
  reply = [];
  control = [];
}
