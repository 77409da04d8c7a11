-- The words of policies, after the manual pages unlang(5) and radiusd.conf(5). Keywords and the names of sections are
-- compared without regard to ASCII case.
use Rattle.std.specs.Prelude.{ℕ, Bool, ◌||◌, List, [], ◌∷◌, Option, Some, None, is_some, codes, if◌then◌else◌}
use Rattle.std.specs.List.{list_any}
use Rattle.std.specs.Str.{str_eq_ignore_ascii_case}
use Rattle.rad_words.specs.declared.sections.Section.{Section}
use Rattle.rad_words.specs.declared.sections.Section.TheVariants as section
use Rattle.unlang_tree.specs.declared.statement.GroupForm.{GroupForm}
use Rattle.unlang_tree.specs.declared.statement.GroupForm.TheVariants as form
use Rattle.unlang_tree.specs.declared.words.ArmWord.{ArmWord}
use Rattle.unlang_tree.specs.declared.words.ArmWord.TheVariants as arm

-- The name of a section.
abbrev pub word_of : Section → List ℕ
word_of section.Authorize = codes "authorize"
word_of section.Authenticate = codes "authenticate"
word_of section.Session = codes "session"
word_of section.Preacct = codes "preacct"
word_of section.Accounting = codes "accounting"
word_of section.PostAuth = codes "post-auth"

-- The section of a name.
unfoldable pub section_of : List ℕ → Option Section
section_of word =
    if str_eq_ignore_ascii_case word (word_of section.Authorize) then Some section.Authorize
    else (if str_eq_ignore_ascii_case word (word_of section.Authenticate) then Some section.Authenticate
    else (if str_eq_ignore_ascii_case word (word_of section.Session) then Some section.Session
    else (if str_eq_ignore_ascii_case word (word_of section.Preacct) then Some section.Preacct
    else (if str_eq_ignore_ascii_case word (word_of section.Accounting) then Some section.Accounting
    else (if str_eq_ignore_ascii_case word (word_of section.PostAuth) then Some section.PostAuth
    else None)))))

-- Whether a word is one of these.
abbrev pub is_one_of : List (List ℕ) → List ℕ → Bool
is_one_of words word = list_any (λ (one : List ℕ). str_eq_ignore_ascii_case word one) words

-- The statement `return` is this word alone.
abbrev pub is_return : List ℕ → Bool
is_return word = str_eq_ignore_ascii_case word (codes "return")

-- The statements that are a word alone and no call, beside `return`. They aren't built yet.
abbrev pub later_words : List (List ℕ)
later_words = codes "break" ∷ []

-- Whether a word alone is a statement, and so no call.
abbrev pub is_word_statement : List ℕ → Bool
is_word_statement word = is_return word || is_one_of later_words word

-- The form of a block of statements, by its kind.
unfoldable pub form_named : List ℕ → Option GroupForm
form_named kind =
    if str_eq_ignore_ascii_case kind (codes "group") then Some form.Group
    else (if str_eq_ignore_ascii_case kind (codes "redundant") then Some form.Redundant
    else (if str_eq_ignore_ascii_case kind (codes "load-balance") then Some form.LoadBalance
    else (if str_eq_ignore_ascii_case kind (codes "redundant-load-balance") then Some form.RedundantLoadBalance
    else None)))

-- The word of an arm, by a block's kind.
unfoldable pub arm_named : List ℕ → Option ArmWord
arm_named kind =
    if str_eq_ignore_ascii_case kind (codes "if") then Some arm.If
    else (if str_eq_ignore_ascii_case kind (codes "elsif") then Some arm.Elsif
    else (if str_eq_ignore_ascii_case kind (codes "else") then Some arm.Else
    else None))

-- The blocks that are statements and no calls, beside `update`, the arms of `if`, `group` and its kin. They aren't built yet.
abbrev pub later_blocks : List (List ℕ)
later_blocks = codes "switch" ∷ codes "foreach" ∷ codes "map" ∷ codes "parallel" ∷ []

-- Whether a block of this kind is a statement of its own, and so no call.
abbrev pub is_keyword : List ℕ → Bool
is_keyword kind =
    str_eq_ignore_ascii_case kind (codes "update") || is_some (form_named kind) || is_some (arm_named kind) || is_one_of later_blocks kind
