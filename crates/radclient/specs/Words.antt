-- What the words of a command line ask for: radclient(1) of FreeRADIUS, in this project's profile.
use Rattle.std.specs.Prelude.{ℕ, suc, ◌==◌, ◌≤◌, ◌&&◌, List, [], ◌∷◌, length, take, drop, nat_le, slice_get, Option, Some, None, codes, if◌then◌else◌}
use Rattle.std.specs.Str.{bytes_eq}
use Rattle.rad_outside.specs.declared.listen.Peer.{Peer}
use Rattle.rad_text.specs.Addresses.{address_of}
use Rattle.rad_text.specs.Find.{◌>>=◌}
use Rattle.rad_text.specs.Numerals.{below}
use Rattle.rad_args.specs.declared.item.Item.{Item}
use Rattle.rad_args.specs.Found.{plain_words, value_of}
use Rattle.rad_args.specs.Numbers.{number_in}
use Rattle.rad_args.specs.Words.{arguments, has_letter}
use Rattle.radclient.specs.declared.asked.Asked.{Asked}
use Rattle.radclient.specs.declared.asked.Kind.{Kind}
use Rattle.radclient.specs.declared.asked.Kind.TheVariants.{Auth, Acct}

-- What a command line asks for, and the file that it names.
pub record Line : Type 0 where
  pub asked : Asked
  pub file : List ℕ

-- `auth` or `acct`.
abbrev pub kind_of : List ℕ → Option Kind
kind_of word = if bytes_eq word (codes "auth") then Some Auth else (if bytes_eq word (codes "acct") then Some Acct else None)

-- The port of a server that listens for these requests, where none is named (RFC 2865 section 3, RFC 2866 section 3).
abbrev pub port_for : Kind → ℕ
port_for Auth = 1812
port_for Acct = 1813

-- How many octets stand before the first colon.
unfoldable pub host_len : List ℕ → ℕ
host_len [] = 0
host_len (c ∷ rest) = if c == 58 then 0 else suc (host_len rest)

-- An address, or `localhost`, which is 127.0.0.1.
abbrev pub host_of : List ℕ → Option ℕ
host_of word = if bytes_eq word (codes "localhost") then Some 2130706433 else address_of word

-- A port of 16 bits behind a colon, or this one where nothing stands there.
abbrev pub port_of : ℕ → List ℕ → Option ℕ
port_of port [] = Some port
port_of port (c ∷ digits) = number_in 1 65535 digits >>= below 65536

-- `SERVER[:PORT]`
unfoldable pub server_of : ℕ → List ℕ → Option Peer
server_of port word = do
  addr ← host_of (take (host_len word) word)
  port ← port_of port (drop (host_len word) word)
  Some (record { addr = addr; port = port })

-- A secret of 1 to 128 octets.
abbrev pub secret_of : List ℕ → Option (List ℕ)
secret_of word = if nat_le 1 (length word) && nat_le (length word) 128 then Some word else None

-- The number of a letter's value in its range, or this one where the letter isn't given.
abbrev pub number_or : ℕ → ℕ → Option (List ℕ) → Option ℕ
number_or default most None = Some default
number_or default most (Some value) = number_in 1 most value

-- The file of a letter's value, or standard input where the letter isn't given.
abbrev pub file_or : Option (List ℕ) → List ℕ
file_or None = codes "-"
file_or (Some value) = value

-- What three plain words ask for, with the letters.
unfoldable pub asked_by : List Item → List ℕ → List ℕ → List ℕ → Option Line
asked_by items server kind secret = do
  kind ← kind_of kind
  server ← server_of (port_for kind) server
  secret ← secret_of secret
  count ← number_or 1 10000 (value_of 99 items)
  tries ← number_or 10 100 (value_of 114 items)
  waits ← number_or 3 3600 (value_of 116 items)
  Some (record {
    asked = record {
      server = server;
      kind = kind;
      secret = secret;
      count = count;
      tries = tries;
      waits = waits;
      quiet = has_letter 113 items;
      shown = has_letter 120 items;
    };
    file = file_or (value_of 102 items);
  })

-- Nothing may follow.
abbrev pub last : Option (List ℕ) → Option Line → Option Line
last None line = line
last (Some word) line = None

-- The plain words are three.
unfoldable pub line_of_items : List Item → Option Line
line_of_items items = do
  server ← slice_get (plain_words items) 0
  kind ← slice_get (plain_words items) 1
  secret ← slice_get (plain_words items) 2
  last (slice_get (plain_words items) 3) (asked_by items server kind secret)

-- What a command line asks for, or nothing where its words are others.
abbrev pub line_of : List (List ℕ) → Option Line
line_of words = arguments (codes "xq") (codes "fcrt") words >>= line_of_items

-- What is asked for is in its range: a secret of 1 to 128 octets, 1 to 10,000 packets of each group, 1 to 100 sends of a packet
-- and 1 to 3,600 answers of the wire behind each.
pub record IsInRange (asked : Asked) : Type 0 where
  pub secret : (1 ≤ length asked.secret) × (length asked.secret ≤ 128)
  pub count : (1 ≤ asked.count) × (asked.count ≤ 10000)
  pub tries : (1 ≤ asked.tries) × (asked.tries ≤ 100)
  pub waits : (1 ≤ asked.waits) × (asked.waits ≤ 3600)
