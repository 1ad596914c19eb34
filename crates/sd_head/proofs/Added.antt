-- What a packet and the end add, as tables, a message and a packet.
use Rattle.std.proofs.Common.{◌≡◌, ℕ, zero, suc, ◌-◌, ◌/◌, ◌%◌, ◌==◌, Bool, true, false, List, [], ◌∷◌, ◌++◌, length}
use Rattle.std.proofs.Common.{refl, sym, ap, subst, ◌∙◌, arith, append_assoc, append-nil}
use Rattle.std.specs.Prelude.{map, Option, Some, IsSome, if◌then◌else◌}
use Rattle.std.specs.List.{concat}
use Rattle.std.proofs.lemmas.Bool.{ne_eqb}
use Rattle.sd_tree_keys.specs.Keys.{control_word_of}
use Rattle.sd_message.specs.Period.{emms_of}
use Rattle.sd_message.specs.declared.emm.Emm.{Emm}
use Rattle.sd_message.specs.EcmParts.{Message, message_of, parts_of}
use Rattle.sd_message.specs.declared.ecm_message.EcmHead.{EcmHead}
use Rattle.sd_message.specs.declared.ecm_part.Place.{Place}
use Rattle.sd_site_cards.specs.SiteFields.{SiteFields}
use Rattle.sd_spec.specs.Plan.{Plan, crypto_length, crypto_of, word_in, word_of, period_in, period_of}
use Rattle.sd_spec.specs.Plan.{closing_number}
use Rattle.sd_spec.specs.Carried.{carried}
use Rattle.sd_spec.specs.Messages.{period_at, message_at, places_after}
use Rattle.sd_spec.specs.Sent.{Item, Controls, Carries, tables_at, tables_before, message_before, added}
use Rattle.sd_spec.specs.Sent.{closing_of, packets_from, sent, bytes_added}
use Rattle.sd_spec.proofs.Sending.{sent_more}
use Rattle.sd_head.specs.declared.crypto.CryptoPeriod.{CryptoPeriod}
use Rattle.sd_head.specs.declared.entitling.Entitling.{Entitling}
use Rattle.sd_head.specs.Crypto.{crypto_in}
use Rattle.sd_head.specs.Packets.{period_packets}
use Rattle.sd_head.specs.Kept.{uncounted, IsPeriodState}
use Rattle.sd_head.specs.Messages.{head_of_ecm, message_due}
use Rattle.sd_head.specs.Items.{HasSentItems, HasCountersAfter, tables_bytes, message_bytes}
use Rattle.sd_head.specs.declared.sender.Sender.{Sender}
use Rattle.sd_head.proofs.Counting.{bytes_on, inserted_bytes, inserted_next, carried_next, items_due, items_of}
use Rattle.sd_head.proofs.Counting.{of_sections}

-- the sections of the period of packet k
abbrev pub sections_at : Plan → ℕ → List Emm
sections_at plan k = emms_of (period_at plan (period_of plan k))

-- the packets of the period at work are those of the period of packet k
pub emms_are : (plan : Plan) (k : ℕ) (entitling : Entitling) → IsPeriodState plan (crypto_of plan.site k) entitling →
    map uncounted entitling.emms.items ≡ of_sections plan.site (sections_at plan k)
unfolding period_packets period_of
emms_are plan k entitling of = of.period.emms

-- the tables stand where a crypto period begins
tables_are : (plan : Plan) (k : ℕ) →
    items_due (k % crypto_length plan.site == 0) (sections_at plan k) ≡ tables_before plan k
unfolding tables_at
tables_are plan k = refl

-- what the message of the crypto period at work says
message_is : (plan : Plan) (before : List (List ℕ)) (crypto : CryptoPeriod) (clear number k : ℕ) (closing : Bool) →
    crypto ≡ crypto_in plan.site.master (period_in plan (crypto_of plan.site k))
    (word_in plan.site (crypto_of plan.site k)) →
    clear ≡ length before →
    message_of (head_of_ecm plan.site crypto clear number closing) (places_after before)
    ≡ message_at plan before number k closing
unfolding message_at head_of_ecm crypto_in period_of word_of
message_is plan before crypto clear number k closing is counted = rw is (rw counted refl)

-- a message stands before every e-th packet
pub message_stands : (plan : Plan) (before : List (List ℕ)) (crypto : CryptoPeriod) (clear : ℕ)
    (places : List Place) → clear ≡ length before →
    crypto ≡ crypto_in plan.site.master (period_in plan (crypto_of plan.site clear))
    (word_in plan.site (crypto_of plan.site clear)) →
    (IsSome (message_due plan.site crypto clear) → places ≡ places_after before) →
    items_of (message_due plan.site crypto clear) places ≡ message_before plan before
unfolding message_due
message_stands plan before crypto clear places counted is are =
    subst (λ (n : ℕ). items_of (message_due plan.site crypto clear) places
    ≡ (if n % plan.site.every == 0 then map Controls
    (parts_of (message_at plan before (n / plan.site.every) n false)) else []))
    counted (go (clear % plan.site.every == 0) refl)
  where
    go : (b : Bool) → (clear % plan.site.every == 0) ≡ b → items_of (message_due plan.site crypto clear) places
        ≡ (if clear % plan.site.every == 0 then map Controls
        (parts_of (message_at plan before (clear / plan.site.every) clear false)) else [])
    go false test = rw test refl
    go true test =
        let some : IsSome (message_due plan.site crypto clear) = rw test refl in
        rw test (ap (λ (ps : List Place). map Controls
        (parts_of (message_of (head_of_ecm plan.site crypto clear (clear / plan.site.every) false) ps))) (are some)
        ∙ ap (λ (message : Message). map Controls (parts_of message))
        (message_is plan before crypto clear (clear / plan.site.every) clear false is counted))

-- what a packet adds is sent
pub added_bytes : (plan : Plan) (before : List (List ℕ)) (packet veiled : List ℕ) (due : Bool) (emms : List (List ℕ))
    (message : Option EcmHead) (sender : Sender) → HasSentItems plan.site (sent plan before) sender →
    due ≡ (length before % crypto_length plan.site == 0) →
    map uncounted emms ≡ of_sections plan.site (sections_at plan (length before)) →
    items_of message sender.places.items ≡ message_before plan before → veiled ≡ carried plan.site before packet →
    (tables_bytes sender due emms ++ message_bytes plan.site.ecm sender message) ++ veiled
    ≡ bytes_added plan before packet
unfolding added packets_from
added_bytes plan before packet veiled due emms message sender has is are told made =
    let T = tables_before plan (length before) in
    let M = message_before plan before in
    let C = Carries (length before) (carried plan.site before packet) ∷ [] in
    let inserted : tables_bytes sender due emms ++ message_bytes plan.site.ecm sender message
    ≡ concat (packets_from plan.site (sent plan before) (T ++ M)) =
    inserted_bytes plan.site (sent plan before) due (sections_at plan (length before)) emms message sender has are
    ∙ ap (λ (items : List Item). concat (packets_from plan.site (sent plan before) items))
    (ap (λ (b : Bool). items_due b (sections_at plan (length before)) ++ items_of message sender.places.items) is
    ∙ (ap (λ (items : List Item). items ++ items_of message sender.places.items) (tables_are plan (length before))
    ∙ ap (λ (items : List Item). T ++ items) told)) in
    ap (λ (bytes : List ℕ). bytes ++ veiled) inserted
    ∙ (ap (λ (bytes : List ℕ). concat (packets_from plan.site (sent plan before) (T ++ M)) ++ bytes) (made
    ∙ sym (append-nil (carried plan.site before packet)))
    ∙ (sym (bytes_on plan.site (sent plan before) (T ++ M) C)
    ∙ ap (λ (items : List Item). concat (packets_from plan.site (sent plan before) items)) (append_assoc T M C)))

-- and then these counters come next
pub added_next : (plan : Plan) (before : List (List ℕ)) (packet : List ℕ) (due : Bool) (emms : List (List ℕ))
    (message : Option EcmHead) (old new : Sender) → HasSentItems plan.site (sent plan before) old →
    due ≡ (length before % crypto_length plan.site == 0) →
    map uncounted emms ≡ of_sections plan.site (sections_at plan (length before)) →
    items_of message old.places.items ≡ message_before plan before → HasCountersAfter old due emms message new →
    HasSentItems plan.site (sent plan (before ++ packet ∷ [])) new
unfolding added
added_next plan before packet due emms message old new has is are told follows =
    let E = sent plan before in
    let T = tables_before plan (length before) in
    let M = message_before plan before in
    let C = Carries (length before) (carried plan.site before packet) ∷ [] in
    let items : items_due due (sections_at plan (length before)) ++ items_of message old.places.items ≡ T ++ M =
    ap (λ (b : Bool). items_due b (sections_at plan (length before)) ++ items_of message old.places.items) is
    ∙ (ap (λ (xs : List Item). xs ++ items_of message old.places.items) (tables_are plan (length before))
    ∙ ap (λ (xs : List Item). T ++ xs) told) in
    let inserted : HasSentItems plan.site (E ++ (T ++ M)) new =
    subst (λ (xs : List Item). HasSentItems plan.site (E ++ xs) new) items
    (inserted_next plan.site E due (sections_at plan (length before)) emms message old new has are follows) in
    subst (λ (xs : List Item). HasSentItems plan.site xs new)
    (append_assoc E (T ++ M) C
    ∙ (ap (λ (xs : List Item). E ++ xs) (append_assoc T M C) ∙ sym (sent_more plan before packet)))
    (carried_next plan.site (E ++ (T ++ M)) (length before) (carried plan.site before packet) new inserted)

-- what the end adds is sent
pub closing_bytes : (plan : Plan) (before : List (List ℕ)) (crypto : CryptoPeriod) (clear : ℕ) (due : Bool)
    (emms : List (List ℕ))
    (head : EcmHead) (sender : Sender) → HasSentItems plan.site (sent plan before) sender → clear ≡ length before →
    due ≡ (clear == 0) → map uncounted emms ≡ of_sections plan.site (sections_at plan (clear - 1)) →
    crypto ≡ crypto_in plan.site.master (period_in plan (crypto_of plan.site (clear - 1)))
    (word_in plan.site (crypto_of plan.site (clear - 1))) →
    head ≡ head_of_ecm plan.site crypto clear (closing_number plan.site clear) true →
    sender.places.items ≡ places_after before →
    tables_bytes sender due emms ++ message_bytes plan.site.ecm sender (Some head)
    ≡ concat (packets_from plan.site (sent plan before) (closing_of plan before))
unfolding closing_of tables_at
closing_bytes plan before crypto clear due emms head sender has counted is are of says placed =
    inserted_bytes plan.site (sent plan before) due (sections_at plan (clear - 1)) emms (Some head) sender has are
    ∙ ap (λ (items : List Item). concat (packets_from plan.site (sent plan before) items))
    (ap (λ (b : Bool). items_due b (sections_at plan (clear - 1)) ++ items_of (Some head) sender.places.items) is
    ∙ (ap (λ (message : Message). items_due (clear == 0) (sections_at plan (clear - 1))
    ++ map Controls (parts_of message)) told
    ∙ (ap (λ (items : List Item). items
    ++ map Controls (parts_of (message_at plan before (closing_number plan.site clear) (clear - 1) true))) (first clear)
    ∙ ap (λ (n : ℕ). (if n == 0 then tables_at plan 0 else [])
    ++ map Controls (parts_of (message_at plan before (closing_number plan.site n) (n - 1) true))) counted)))
  where
    told : message_of head sender.places.items
        ≡ message_at plan before (closing_number plan.site clear) (clear - 1) true
    told =
        ap (λ (h : EcmHead). message_of h sender.places.items) says
        ∙ (ap (message_of (head_of_ecm plan.site crypto clear (closing_number plan.site clear) true)) placed
        ∙ message_is plan before crypto clear (closing_number plan.site clear) (clear - 1) true of counted)

    first : (n : ℕ) → items_due (n == 0) (sections_at plan (n - 1)) ≡ (if n == 0 then tables_at plan 0 else [])
    first zero = refl
    first (suc n) =
        let test : (suc n == 0) ≡ false = ne_eqb (suc n) 0 (λ e. absurd (omega (arith, e))) in
        rw test refl

-- the control word of a packet's crypto period is the packet's
pub word_is : (site : SiteFields) (k : ℕ) → word_in site (crypto_of site k) ≡ word_of site k
unfolding word_of
word_is site k = refl

-- the crypto period's number and control word
pub crypto_number : (crypto : CryptoPeriod) (master : List ℕ) (q t : ℕ) → crypto ≡ crypto_in master q t →
    crypto.number ≡ t
unfolding crypto_in
crypto_number crypto master q t is = ap (λ (c : CryptoPeriod). c.number) is

pub crypto_word : (crypto : CryptoPeriod) (master : List ℕ) (q t : ℕ) → crypto ≡ crypto_in master q t →
    crypto.word ≡ control_word_of master t
unfolding crypto_in
crypto_word crypto master q t is = ap (λ (c : CryptoPeriod). c.word) is
