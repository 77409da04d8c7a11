-- Where a section stands among the policies of a site's servers, after radiusd.conf(5). Servers are named octet by octet,
-- subsections without regard to ASCII case.
use Rattle.std.specs.Prelude.{ℕ, nat_lt, ◌==◌, Bool, List, Option, Some, None, find, position, slice_get, if◌then◌else◌}
use Rattle.std.specs.Option.{option_map, option_and_then}
use Rattle.std.specs.Str.{bytes_eq, str_eq_ignore_ascii_case}
use Rattle.rad_words.specs.declared.sections.Section.{Section}
use Rattle.mod_base.specs.Methods.{place_of}
use Rattle.unlang_tree.specs.declared.statement.Statement.{Statement}
use Rattle.unlang_tree.specs.declared.policies.Subsection.{Subsection}
use Rattle.unlang_tree.specs.declared.policies.SectionTree.{SectionTree}
use Rattle.unlang_tree.specs.declared.policies.ServerTree.{ServerTree}
use Rattle.unlang_code.specs.declared.section_id.SectionId.{SectionId}

-- A place as a number of 32 bits, or none where it is greater, as none is that memory holds.
abbrev pub in_32_bits : ℕ → Option ℕ
in_32_bits place = if nat_lt place 4294967296 then Some place else None

-- A server has this name, octet by octet.
abbrev pub is_server_named : List ℕ → ServerTree → Bool
is_server_named name server = bytes_eq server.name name

-- A subsection has this name, in any case of its ASCII letters.
abbrev pub is_named : List ℕ → Subsection → Bool
is_named name subsection = str_eq_ignore_ascii_case subsection.name name

-- A section is of this kind.
abbrev pub is_of_kind : Section → SectionTree → Bool
is_of_kind kind tree = place_of tree.section == place_of kind

-- The number of the server of a name: its place.
unfoldable pub server_of : List ServerTree → List ℕ → Option ℕ
server_of servers name = option_and_then in_32_bits (position (is_server_named name) servers)

-- The number of the subsection of a name: its place.
unfoldable pub subsection_of : List Subsection → List ℕ → Option ℕ
subsection_of subsections name = option_and_then in_32_bits (position (is_named name) subsections)

-- The section of a kind in a server: the first.
unfoldable pub section_in : List ServerTree → ℕ → Section → Option SectionTree
section_in servers server kind = option_and_then (λ (tree : ServerTree). find (is_of_kind kind) tree.sections) (slice_get servers server)

-- The section of a kind in a server, or its subsection of a name, as it is called by.
unfoldable pub found : List ServerTree → ℕ → Section → Option (List ℕ) → Option SectionId
found servers server kind None = option_map (λ (section : SectionTree). record { server = server; section = kind; sub = None }) (section_in servers server kind)
found servers server kind (Some name) = option_and_then (λ (section : SectionTree). option_map (λ number. record { server = server; section = kind; sub = Some number }) (subsection_of section.subsections name)) (section_in servers server kind)

-- The statements of a section, or of its subsection of a number.
abbrev pub statements_in : Option ℕ → SectionTree → Option (List Statement)
statements_in None section = Some section.statements
statements_in (Some number) section = option_map (λ (subsection : Subsection). subsection.statements) (slice_get section.subsections number)

-- The statements that a section's name stands for.
unfoldable pub statements_of : List ServerTree → SectionId → Option (List Statement)
statements_of servers id = option_and_then (statements_in id.sub) (section_in servers id.server id.section)
