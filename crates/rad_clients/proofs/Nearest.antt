-- The client of an address is the nearest, and where there is none no client has the address.
use Rattle.std.proofs.Common.{◌≡◌, ℕ, zero, suc, ◌-◌, ◌<◌, ◌≤◌, Bool, true, false, eqb, List, [], ◌∷◌, Option, Some, None, IfSome, IfNone, refl, sym, ap, subst, ◌∙◌, eq-eqb, arith}
use Rattle.std.specs.List.{All, Contains, find}
use Rattle.std.proofs.lemmas.List.Elements.{All-contains, All-cons}
use Rattle.std.specs.Option.{option_or}
use Rattle.std.proofs.lemmas.Bool.{and_parts, and_from, eqb-true}
use Rattle.std.proofs.lemmas.Option.{none-some}
use Rattle.rad_index.proofs.Finds.{find_fits, find_finds}
use Rattle.rad_packet.specs.declared.client.Client.{Client}
use Rattle.rad_clients.specs.Networks.{network, HasAddress, is_of, nearest_of, client_of, IsNearest, network_key, key_of}

-- The network that is looked for has the key of its client.
pub key_only : (bits addr : ℕ) (client : Client) → is_of bits addr client ≡ true → key_of client ≡ network_key bits addr
key_only bits addr client e =
    let parts = and_parts (eqb client.bits bits) (eqb (network bits client.addr) (network bits addr)) e in
    let same = eqb-true client.bits bits parts.0 in
    let at = eqb-true (network bits client.addr) (network bits addr) parts.1 in
    rw (same, at) refl

-- A client that is a network has its addresses.
has_of : (bits addr : ℕ) (client : Client) → is_of bits addr client ≡ true → (client.bits ≡ bits) × HasAddress client addr
has_of bits addr client e =
    let parts = and_parts (eqb client.bits bits) (eqb (network bits client.addr) (network bits addr)) e in
    let same = eqb-true client.bits bits parts.0 in
    let at = eqb-true (network bits client.addr) (network bits addr) parts.1 in
    (same, subst (λ n. network n client.addr ≡ network n addr) (sym same) at)

of_has : (bits addr : ℕ) (client : Client) → client.bits ≡ bits → HasAddress client addr → is_of bits addr client ≡ true
of_has bits addr client same has =
    and_from (eqb client.bits bits) (eqb (network bits client.addr) (network bits addr)) (eq-eqb client.bits bits same)
    (eq-eqb (network bits client.addr) (network bits addr) (subst (λ n. network n client.addr ≡ network n addr) same has))

-- No other client of at most so many bits has a longer prefix.
abbrev pub Longest : ℕ → ℕ → List Client → ℕ → Type 0
Longest bits addr clients least = (other : Client) → Contains clients other → HasAddress other addr → other.bits ≤ bits → other.bits ≤ least

abbrev pub Near : ℕ → ℕ → List Client → Client → Type 0
Near bits addr clients client = Contains clients client × HasAddress client addr × (client.bits ≤ bits) × Longest bits addr clients client.bits

abbrev pub Strange : ℕ → ℕ → List Client → Type 0
Strange bits addr clients = (other : Client) → Contains clients other → HasAddress other addr → other.bits ≤ bits → ⊥

found_near : (bits addr : ℕ) (clients : List Client) (client : Client) → find (is_of bits addr) clients ≡ Some client → Near bits addr clients client
found_near bits addr clients client e =
    let fits = find_fits (is_of bits addr) clients client e in
    let has = has_of bits addr client fits.1 in
    (fits.0, has.1, omega (arith, has.0), λ other here its le. omega (arith, le, has.0))

none_strange : (bits addr : ℕ) (clients : List Client) → find (is_of bits addr) clients ≡ None → (other : Client) → Contains clients other → HasAddress other addr → other.bits ≡ bits → ⊥
none_strange bits addr clients none other here has same =
    let found = find_finds (is_of bits addr) clients other here (of_has bits addr other same has) in
    none-some found.0 (sym none ∙ found.1)

-- One bit more.
below : (n bits : ℕ) → n ≤ suc bits → (n ≡ suc bits → ⊥) → n ≤ bits
below n bits le apart = by (eqb n (suc bits)) refl where
  by : (b : Bool) → eqb n (suc bits) ≡ b → n ≤ bits
  by true e = absurd (apart (eqb-true n (suc bits) e))
  by false e = omega (arith, le, e)

pub near : (bits addr : ℕ) (clients : List Client) (client : Client) → nearest_of bits addr clients ≡ Some client → Near bits addr clients client
unfolding nearest_of
near zero addr clients client e = found_near zero addr clients client e
near (suc bits) addr clients client e = by (near bits addr clients client) (find (is_of (suc bits) addr) clients) refl e where
  by : (nearest_of bits addr clients ≡ Some client → Near bits addr clients client) → (o : Option Client) → find (is_of (suc bits) addr) clients ≡ o
      → option_or o (nearest_of bits addr clients) ≡ Some client → Near (suc bits) addr clients client
  by later (Some first) found is = found_near (suc bits) addr clients client (found ∙ is)
  by later None none is =
      let more = later is in
      (more.0, more.1, omega (arith, more.2), λ other here has le. more.3 other here has (below other.bits bits le (λ same. none_strange (suc bits) addr clients none other here has same)))

pub strange : (bits addr : ℕ) (clients : List Client) → nearest_of bits addr clients ≡ None → Strange bits addr clients
unfolding nearest_of
strange zero addr clients e = λ other here has le. none_strange zero addr clients e other here has (omega (arith, le))
strange (suc bits) addr clients e = by (strange bits addr clients) (find (is_of (suc bits) addr) clients) refl e where
  by : (nearest_of bits addr clients ≡ None → Strange bits addr clients) → (o : Option Client) → find (is_of (suc bits) addr) clients ≡ o
      → option_or o (nearest_of bits addr clients) ≡ None → Strange (suc bits) addr clients
  by later (Some first) found is = absurd (none-some first (sym is))
  by later None none is = λ other here has le. later is other here has (below other.bits bits le (λ same. none_strange (suc bits) addr clients none other here has same))

-- One length of prefix after another.
pub nearest_here : (bits addr : ℕ) (clients : List Client) (client : Client) → find (is_of bits addr) clients ≡ Some client → nearest_of bits addr clients ≡ Some client
unfolding nearest_of
nearest_here zero addr clients client e = e
nearest_here (suc bits) addr clients client e = ap (λ o. option_or o (nearest_of bits addr clients)) e

pub nearest_next : (bits addr : ℕ) (clients : List Client) → 0 < bits → find (is_of bits addr) clients ≡ None → nearest_of (bits - 1) addr clients ≡ nearest_of bits addr clients
unfolding nearest_of
nearest_next zero addr clients some e = absurd (omega (arith, some))
nearest_next (suc bits) addr clients some e = ap (λ n. nearest_of n addr clients) (omega arith) ∙ sym (ap (λ o. option_or o (nearest_of bits addr clients)) e)

pub nearest_last : (bits addr : ℕ) (clients : List Client) → bits ≡ 0 → nearest_of bits addr clients ≡ find (is_of 0 addr) clients
unfolding nearest_of
nearest_last bits addr clients none = ap (λ n. nearest_of n addr clients) none

-- What is told of the client of an address, where each prefix has at most 32 bits.
pub is_nearest : (addr : ℕ) (clients : List Client) (o : Option Client) → o ≡ client_of addr clients → All (λ (client : Client). client.bits ≤ 32) clients → IfSome o (λ client. IsNearest client addr clients)
is_nearest addr clients None e fit = tt
is_nearest addr clients (Some client) e fit =
    let found = near 32 addr clients client (sym e) in
    record { there = found.0; has = found.1; longest = λ other here has. found.3 other here has (All-contains (λ (c : Client). c.bits ≤ 32) clients other fit here) }

pub is_stranger : (addr : ℕ) (clients : List Client) (o : Option Client) → o ≡ client_of addr clients → All (λ (client : Client). client.bits ≤ 32) clients
    → IfNone o ((client : Client) → Contains clients client → HasAddress client addr → ⊥)
is_stranger addr clients (Some client) e fit = tt
is_stranger addr clients None e fit = λ other here has. strange 32 addr clients (sym e) other here has (All-contains (λ (c : Client). c.bits ≤ 32) clients other fit here)

pub only_fits : (client : Client) → client.bits ≤ 32 → All (λ (c : Client). c.bits ≤ 32) (client ∷ [])
only_fits client fits = All-cons (λ (c : Client). c.bits ≤ 32) client [] fits (λ k other lt. absurd (omega (arith, lt)))
