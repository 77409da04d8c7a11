use Rattle.std.proofs.Common.{◌≡◌, ◌≢◌, List, ℕ, Bool, length, sym, ◌∙◌, subst}
use Rattle.std.specs.Prelude.{◌==◌, Some, None}
use Rattle.std.specs.Bool.{OnTrue, OnFalse}
use Rattle.std.proofs.lemmas.Bool.{OnTrue_from, OnFalse_from, eqb-true}
use Rattle.rad_packet.specs.Packet.{Attribute, AreAttributes}
use Rattle.rad_packet.specs.Signatures.{message_authenticator, of_kind}
use Rattle.rad_packet.proofs.Signing.{value_first}
use Rattle.rad_packet.proofs.Intact.{intact_with, intact_without, tampered_value, tampered_count}
use Rattle.rad_packet.proofs.signatures.is_intact.Goals as goal

pub returns-in-None-clause-yes : goal.returns-in-None-clause-yes
returns-in-None-clause-yes c =
    let none = subst (λ (x : List ℕ). (all : List Attribute) → AreAttributes all x → None ≡ value_first (of_kind 80 all)) c.split_at.ensures.back c.in-None.ensures in
    intact_without c.args.packet.now c.args.authenticator.now c.args.secret.now c.requires none

pub returns-then-stands_once-clause-yes : goal.returns-then-stands_once-clause-yes
returns-then-stands_once-clause-yes c =
    let value = c.in-Some.value.now in
    let right = message_authenticator c.args.packet.now c.args.authenticator.now c.args.secret.now in
    let first = subst (λ (x : List ℕ). (all : List Attribute) → AreAttributes all x → Some value ≡ value_first (of_kind 80 all)) c.split_at.ensures.back c.in-Some.ensures in
    let count = subst (λ (x : List ℕ). (all : List Attribute) → AreAttributes all x → c.stands_once.result ≡ (length (of_kind 80 all) == 1)) c.split_at.ensures.back c.stands_once.ensures in
    OnTrue_from _ _ (λ yes.
    intact_with c.args.packet.now c.args.authenticator.now c.args.secret.now value c.requires first
    (λ all are. sym (eqb-true _ _ (sym (count all are) ∙ c.if-stands_once.true)))
    (subst (λ (b : Bool). OnTrue b (value ≡ right)) yes c.is_message_authenticator.ensures.yes))

pub returns-then-stands_once-clause-no : goal.returns-then-stands_once-clause-no
returns-then-stands_once-clause-no c =
    let value = c.in-Some.value.now in
    let right = message_authenticator c.args.packet.now c.args.authenticator.now c.args.secret.now in
    let first = subst (λ (x : List ℕ). (all : List Attribute) → AreAttributes all x → Some value ≡ value_first (of_kind 80 all)) c.split_at.ensures.back c.in-Some.ensures in
    OnFalse_from _ _ (λ no.
    tampered_value c.args.packet.now c.args.authenticator.now c.args.secret.now value c.requires first
    (subst (λ (b : Bool). OnFalse b (value ≢ right)) no c.is_message_authenticator.ensures.no))

pub returns-else-stands_once-clause-no : goal.returns-else-stands_once-clause-no
returns-else-stands_once-clause-no c =
    let value = c.in-Some.value.now in
    let first = subst (λ (x : List ℕ). (all : List Attribute) → AreAttributes all x → Some value ≡ value_first (of_kind 80 all)) c.split_at.ensures.back c.in-Some.ensures in
    let count = subst (λ (x : List ℕ). (all : List Attribute) → AreAttributes all x → c.stands_once.result ≡ (length (of_kind 80 all) == 1)) c.split_at.ensures.back c.stands_once.ensures in
    OnFalse_from _ _ (λ no.
    tampered_count c.args.packet.now c.args.authenticator.now c.args.secret.now value c.requires first (λ all are. sym (count all are) ∙ c.if-stands_once.false))
