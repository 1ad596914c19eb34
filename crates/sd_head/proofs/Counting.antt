-- The counters of a head end's own messages.
use Rattle.std.proofs.Common.{◌≡◌, ℕ, ◌+◌, ◌%◌, Bool, true, false, List, [], ◌∷◌, ◌++◌, length, cond}
use Rattle.std.proofs.Common.{refl, sym, ap, ◌∙◌, arith}
use Rattle.std.specs.Prelude.{map, count_by, Option, Some, None, if◌then◌else◌}
use Rattle.std.specs.List.{concat}
use Rattle.std.proofs.lemmas.List.Sums.{sum_by-cons, sum_by-append, sum_by_push}
use Rattle.std.proofs.lemmas.List.{length-map}
use Rattle.std.proofs.lemmas.List.Folds.{concat-append}
use Rattle.sd_packet.specs.Packing.{section_packet}
use Rattle.sd_packet.proofs.Packets.{packet_counted}
use Rattle.sd_psi.specs.OurCat.{cat_section}
use Rattle.sd_site_cards.specs.SiteFields.{SiteFields}
use Rattle.sd_message.specs.EmmSpelled.{emm_section}
use Rattle.sd_message.specs.declared.emm.Emm.{Emm}
use Rattle.sd_message.specs.EcmSpelled.{ecm_section}
use Rattle.sd_message.specs.declared.ecm_part.EcmPart.{EcmPart}
use Rattle.sd_spec.specs.Sent.{Item, Cat, Entitles, Controls, Carries, is_alike, item_packet, packets_from}
use Rattle.sd_spec.specs.Sent.{is_cat_item}
use Rattle.sd_message.specs.EcmParts.{message_of, parts_of}
use Rattle.sd_message.specs.declared.ecm_message.EcmHead.{EcmHead}
use Rattle.sd_message.specs.declared.ecm_part.Place.{Place}
use Rattle.sd_spec.proofs.Sending.{packets_in_turn}
use Rattle.sd_head.specs.Kept.{uncounted}
use Rattle.sd_head.specs.Sending.{counter_after, with_counters, recounted, packed_part}
use Rattle.sd_head.specs.Items.{is_entitlement, is_ecm_item, tables_bytes, message_bytes, parts_in, HasSentItems}
use Rattle.sd_head.specs.Items.{HasCountersAfter}
use Rattle.sd_head.specs.declared.sender.Sender.{Sender}
use Rattle.sd_head.proofs.Sends.{counter_is}
use Rattle.sd_head.proofs.Numbering.{numbered_anew}

-- tests that agree count alike
same_counts : (p q : Item → Bool) → ((x : Item) → p x ≡ q x) → (xs : List Item) → count_by p xs ≡ count_by q xs
same_counts p q h [] = refl
same_counts p q h (x ∷ xs) =
    sum_by-cons (λ y. cond (p y) 1 0) x xs
    ∙ (ap (λ (b : Bool). cond b 1 0 + count_by p xs) (h x)
    ∙ (ap (λ (n : ℕ). cond (q x) 1 0 + n) (same_counts p q h xs) ∙ sym (sum_by-cons (λ y. cond (q y) 1 0) x xs)))

cat_alike : (x : Item) → is_alike Cat x ≡ is_cat_item x
cat_alike Cat = refl
cat_alike (Entitles emm) = refl
cat_alike (Controls part) = refl
cat_alike (Carries k packet) = refl

entitlement_alike : (emm : Emm) (x : Item) → is_alike (Entitles emm) x ≡ is_entitlement x
entitlement_alike emm Cat = refl
entitlement_alike emm (Entitles other) = refl
entitlement_alike emm (Controls part) = refl
entitlement_alike emm (Carries k packet) = refl

control_alike : (part : EcmPart) (x : Item) → is_alike (Controls part) x ≡ is_ecm_item x
control_alike part Cat = refl
control_alike part (Entitles emm) = refl
control_alike part (Controls other) = refl
control_alike part (Carries k packet) = refl

-- things after others are counted with them
counts_on : (p : Item → Bool) (xs ys : List Item) → count_by p (xs ++ ys) ≡ count_by p xs + count_by p ys
counts_on p xs ys = sum_by-append (λ x. cond (p x) 1 0) xs ys

-- one after others
counts_one : (p : Item → Bool) (xs : List Item) (x : Item) → count_by p (xs ++ x ∷ []) ≡ count_by p xs + cond (p x) 1 0
counts_one p xs x = sum_by_push (λ y. cond (p y) 1 0) xs x

-- of things of one kind all count, or none
all_count : {A : Type 0} → (p : Item → Bool) (make : A → Item) → ((a : A) → p (make a) ≡ true) → (xs : List A) →
    count_by p (map make xs) ≡ length xs
all_count p make h [] = refl
all_count p make h (x ∷ xs) =
    let step = sum_by-cons (λ y. cond (p y) 1 0) (make x) (map make xs) in
    let one : ◌≡◌ {A = ℕ} (cond (p (make x)) 1 0) 1 = ap (λ (b : Bool). let n : ℕ = cond b 1 0 in n) (h x) in
    let rest = all_count p make h xs in
    omega (arith, step, one, rest)

none_counts : {A : Type 0} → (p : Item → Bool) (make : A → Item) → ((a : A) → p (make a) ≡ false) → (xs : List A) →
    count_by p (map make xs) ≡ 0
none_counts p make h [] = refl
none_counts p make h (x ∷ xs) =
    let step = sum_by-cons (λ y. cond (p y) 1 0) (make x) (map make xs) in
    let none : ◌≡◌ {A = ℕ} (cond (p (make x)) 1 0) 0 = ap (λ (b : Bool). let n : ℕ = cond b 1 0 in n) (h x) in
    let rest = none_counts p make h xs in
    omega (arith, step, none, rest)

-- the counter of a thing is that of those before it
one_counted : (p : Item → Bool) (earlier : List Item) (x : Item) → p x ≡ true →
    count_by p (earlier ++ x ∷ []) % 16 ≡ (count_by p earlier % 16 + 1) % 16
one_counted p earlier x h =
    let step = counts_one p earlier x in
    let one : ◌≡◌ {A = ℕ} (cond (p x) 1 0) 1 = ap (λ (b : Bool). let n : ℕ = cond b 1 0 in n) h in
    omega (arith, step, one)

none_counted : (p : Item → Bool) (earlier : List Item) (x : Item) → p x ≡ false →
    count_by p (earlier ++ x ∷ []) ≡ count_by p earlier
none_counted p earlier x h =
    let step = counts_one p earlier x in
    let none : ◌≡◌ {A = ℕ} (cond (p x) 1 0) 0 = ap (λ (b : Bool). let n : ℕ = cond b 1 0 in n) h in
    omega (arith, step, none)

-- a period's packets, each with counter 0
abbrev pub of_sections : SiteFields → List Emm → List (List ℕ)
of_sections site sections = map (λ emm. section_packet (emm_section emm) site.emm 0) sections

-- the packets of entitlements are those of counter 0 under the counters that come next
entitled : (site : SiteFields) (counter : ℕ) (earlier : List Item) (sections : List Emm) →
    counter ≡ count_by is_entitlement earlier % 16 →
    packets_from site earlier (map Entitles sections) ≡ with_counters recounted counter (of_sections site sections)
unfolding packets_from
entitled site counter earlier [] is = refl
entitled site counter earlier (emm ∷ sections) is =
    let here : item_packet site earlier (Entitles emm) ≡ recounted (section_packet (emm_section emm) site.emm 0)
    counter =
    ap (λ (n : ℕ). section_packet (emm_section emm) site.emm (n % 16))
    (same_counts (is_alike (Entitles emm)) is_entitlement (entitlement_alike emm) earlier)
    ∙ (ap (section_packet (emm_section emm) site.emm) (sym is) ∙ packet_counted (emm_section emm) site.emm counter) in
    let next : (counter + 1) % 16 ≡ count_by is_entitlement (earlier ++ Entitles emm ∷ []) % 16 =
    ap (λ (c : ℕ). (c + 1) % 16) is ∙ sym (one_counted is_entitlement earlier (Entitles emm) refl) in
    ap (λ (p : List ℕ). p ∷ packets_from site (earlier ++ Entitles emm ∷ []) (map Entitles sections)) here
    ∙ ap (λ (ps : List (List ℕ)). recounted (section_packet (emm_section emm) site.emm 0) counter ∷ ps)
    (entitled site ((counter + 1) % 16) (earlier ++ Entitles emm ∷ []) sections next)

-- and those of a message's parts are under the counters that come next
controlled : (site : SiteFields) (counter : ℕ) (earlier : List Item) (parts : List EcmPart) →
    counter ≡ count_by is_ecm_item earlier % 16 →
    packets_from site earlier (map Controls parts) ≡ with_counters (packed_part site.ecm) counter parts
unfolding packets_from
controlled site counter earlier [] is = refl
controlled site counter earlier (part ∷ parts) is =
    let here : item_packet site earlier (Controls part) ≡ packed_part site.ecm part counter =
    ap (λ (n : ℕ). section_packet (ecm_section part) site.ecm (n % 16))
    (same_counts (is_alike (Controls part)) is_ecm_item (control_alike part) earlier)
    ∙ ap (section_packet (ecm_section part) site.ecm) (sym is) in
    let next : (counter + 1) % 16 ≡ count_by is_ecm_item (earlier ++ Controls part ∷ []) % 16 =
    ap (λ (c : ℕ). (c + 1) % 16) is ∙ sym (one_counted is_ecm_item earlier (Controls part) refl) in
    ap (λ (p : List ℕ). p ∷ packets_from site (earlier ++ Controls part ∷ []) (map Controls parts)) here
    ∙ ap (λ (ps : List (List ℕ)). packed_part site.ecm part counter ∷ ps)
    (controlled site ((counter + 1) % 16) (earlier ++ Controls part ∷ []) parts next)

-- the tables as things, where they are due
abbrev pub items_due : Bool → List Emm → List Item
items_due due sections = if due then Cat ∷ map Entitles sections else []

-- a message as things, if there is one
abbrev pub items_of : Option EcmHead → List Place → List Item
items_of None places = []
items_of (Some head) places = map Controls (parts_of (message_of head places))

-- the bytes of things and of those after them
pub bytes_on : (site : SiteFields) (earlier xs ys : List Item) → concat (packets_from site earlier (xs ++ ys))
    ≡ concat (packets_from site earlier xs) ++ concat (packets_from site (earlier ++ xs) ys)
bytes_on site earlier xs ys =
    ap concat (packets_in_turn site earlier xs ys)
    ∙ concat-append (packets_from site earlier xs) (packets_from site (earlier ++ xs) ys)

-- the bytes of the tables
tables_told : (site : SiteFields) (earlier : List Item) (due : Bool) (sections : List Emm) (sender : Sender) →
    HasSentItems site earlier sender →
    tables_bytes sender due (of_sections site sections) ≡ concat (packets_from site earlier (items_due due sections))
unfolding packets_from
tables_told site earlier false sections sender sent = refl
tables_told site earlier true sections sender sent =
    let cat : item_packet site earlier Cat ≡ recounted sender.cat sender.cats =
    ap (λ (n : ℕ). section_packet (cat_section site.ca site.emm site.ecm) 1 (n % 16))
    (same_counts (is_alike Cat) is_cat_item cat_alike earlier)
    ∙ (packet_counted (cat_section site.ca site.emm site.ecm) 1 (count_by is_cat_item earlier % 16)
    ∙ (ap (λ (p : List ℕ). recounted p (count_by is_cat_item earlier % 16)) (sym sent.cat_is)
    ∙ ap (recounted sender.cat) (sym sent.cats_are))) in
    let next : sender.emms ≡ count_by is_entitlement (earlier ++ Cat ∷ []) % 16 =
    sent.emms_are ∙ ap (λ (n : ℕ). n % 16) (sym (none_counted is_entitlement earlier Cat refl)) in
    sym (ap (λ (p : List ℕ). p ++ concat (packets_from site (earlier ++ Cat ∷ []) (map Entitles sections))) cat
    ∙ ap (λ (ps : List (List ℕ)). recounted sender.cat sender.cats ++ concat ps)
    (entitled site sender.emms (earlier ++ Cat ∷ []) sections next))

-- the counters that the packets had before don't matter
tables_anew : (sender : Sender) (due : Bool) (emms : List (List ℕ)) →
    tables_bytes sender due emms ≡ tables_bytes sender due (map uncounted emms)
tables_anew sender false emms = refl
tables_anew sender true emms =
    ap (λ (ps : List (List ℕ)). recounted sender.cat sender.cats ++ concat ps) (sym (numbered_anew sender.emms emms))

-- the bytes of a message
message_told : (site : SiteFields) (earlier : List Item) (message : Option EcmHead) (sender : Sender) →
    sender.ecms ≡ count_by is_ecm_item earlier % 16 →
    message_bytes site.ecm sender message ≡ concat (packets_from site earlier (items_of message sender.places.items))
unfolding packets_from
message_told site earlier None sender sent = refl
message_told site earlier (Some head) sender sent =
    sym (ap concat (controlled site sender.ecms earlier (parts_of (message_of head sender.places.items)) sent))

-- how many of each kind the tables are
cats_due : (due : Bool) (sections : List Emm) →
    ◌≡◌ {A = ℕ} (count_by is_cat_item (items_due due sections)) (if due then 1 else 0)
cats_due false sections = refl
cats_due true sections =
    let first = sum_by-cons (λ y. cond (is_cat_item y) 1 0) Cat (map Entitles sections) in
    let none = none_counts is_cat_item Entitles (λ a. refl) sections in
    omega (arith, first, none)

emms_due : (due : Bool) (sections : List Emm) →
    ◌≡◌ {A = ℕ} (count_by is_entitlement (items_due due sections)) (if due then length sections else 0)
emms_due false sections = refl
emms_due true sections =
    let first = sum_by-cons (λ y. cond (is_entitlement y) 1 0) Cat (map Entitles sections) in
    let all = all_count is_entitlement Entitles (λ a. refl) sections in
    omega (arith, first, all)

ecms_due : (due : Bool) (sections : List Emm) → count_by is_ecm_item (items_due due sections) ≡ 0
ecms_due false sections = refl
ecms_due true sections =
    let first = sum_by-cons (λ y. cond (is_ecm_item y) 1 0) Cat (map Entitles sections) in
    let none = none_counts is_ecm_item Entitles (λ a. refl) sections in
    omega (arith, first, none)

-- and a message
cats_of : (message : Option EcmHead) (places : List Place) → count_by is_cat_item (items_of message places) ≡ 0
cats_of None places = refl
cats_of (Some head) places = none_counts is_cat_item Controls (λ a. refl) (parts_of (message_of head places))

emms_of_message : (message : Option EcmHead) (places : List Place) →
    count_by is_entitlement (items_of message places) ≡ 0
emms_of_message None places = refl
emms_of_message (Some head) places = none_counts is_entitlement Controls (λ a. refl) (parts_of (message_of head places))

ecms_of : (message : Option EcmHead) (sender : Sender) →
    count_by is_ecm_item (items_of message sender.places.items) ≡ parts_in sender message
ecms_of None sender = refl
ecms_of (Some head) sender = all_count is_ecm_item Controls (λ a. refl) (parts_of (message_of head sender.places.items))

-- tables and a message are sent
pub inserted_bytes : (site : SiteFields) (earlier : List Item) (due : Bool) (sections : List Emm) (emms : List (List ℕ))
    (message : Option EcmHead) (sender : Sender) → HasSentItems site earlier sender →
    map uncounted emms ≡ of_sections site sections →
    tables_bytes sender due emms ++ message_bytes site.ecm sender message
    ≡ concat (packets_from site earlier (items_due due sections ++ items_of message sender.places.items))
inserted_bytes site earlier due sections emms message sender sent are =
    let none = ecms_due due sections in
    let on = counts_on is_ecm_item earlier (items_due due sections) in
    let same : count_by is_ecm_item (earlier ++ items_due due sections) ≡ count_by is_ecm_item earlier =
    omega (arith, none, on) in
    ap (λ (bytes : List ℕ). bytes ++ message_bytes site.ecm sender message) (tables_anew sender due emms
    ∙ ap (tables_bytes sender due) are)
    ∙ (ap (λ (bytes : List ℕ). bytes ++ message_bytes site.ecm sender message)
    (tables_told site earlier due sections sender sent)
    ∙ (ap (λ (bytes : List ℕ). concat (packets_from site earlier (items_due due sections)) ++ bytes)
    (message_told site (earlier ++ items_due due sections) message sender (sent.ecms_are
    ∙ ap (λ (n : ℕ). n % 16) (sym same)))
    ∙ sym (bytes_on site earlier (items_due due sections) (items_of message sender.places.items))))

-- and then come these counters
pub inserted_next : (site : SiteFields) (earlier : List Item) (due : Bool) (sections : List Emm) (emms : List (List ℕ))
    (message : Option EcmHead) (old new : Sender) → HasSentItems site earlier old →
    map uncounted emms ≡ of_sections site sections →
    HasCountersAfter old due emms message new →
    HasSentItems site (earlier ++ (items_due due sections ++ items_of message old.places.items)) new
inserted_next site earlier due sections emms message old new sent are follows =
    let many : length emms ≡ length sections =
    sym (length-map emms uncounted) ∙ ap (λ (ps : List (List ℕ)). length ps) are
    ∙ length-map sections (λ (emm : Emm). section_packet (emm_section emm) site.emm 0) in
    record {
      cat_is = follows.cat ∙ sent.cat_is;
      cats_are = cats due sections follows.cats (counts_on is_cat_item earlier _)
          (counts_on is_cat_item (items_due due sections) _);
      emms_are = emms_next due sections many follows.emms_next (counts_on is_entitlement earlier _)
          (counts_on is_entitlement (items_due due sections) _);
      ecms_are =
          let after : new.ecms ≡ (count_by is_ecm_item earlier + parts_in old message) % 16 =
          follows.ecms ∙ (ap (λ (c : ℕ). counter_after c (parts_in old message)) sent.ecms_are
          ∙ counter_is (count_by is_ecm_item earlier) (parts_in old message)) in
          let on = counts_on is_ecm_item earlier (items_due due sections ++ items_of message old.places.items) in
          let both = counts_on is_ecm_item (items_due due sections) (items_of message old.places.items) in
          let none = ecms_due due sections in
          let all = ecms_of message old in
          omega (arith, after, on, both, none, all);
    }
  where
    M : List Item
    M = items_of message old.places.items

    cats : (due : Bool) (sections : List Emm) → new.cats ≡ (if due then (old.cats + 1) % 16 else old.cats) →
        count_by is_cat_item (earlier ++ (items_due due sections ++ M))
        ≡ count_by is_cat_item earlier + count_by is_cat_item (items_due due sections ++ M) →
        count_by is_cat_item (items_due due sections ++
        M) ≡ count_by is_cat_item (items_due due sections) + count_by is_cat_item M →
        new.cats ≡ count_by is_cat_item (earlier ++ (items_due due sections ++ M)) % 16
    cats true sections next on both =
        let due' = cats_due true sections in
        let none = cats_of message old.places.items in
        omega (arith, next, on, both, due', none, sent.cats_are)
    cats false sections next on both =
        let due' = cats_due false sections in
        let none = cats_of message old.places.items in
        omega (arith, next, on, both, due', none, sent.cats_are)

    emms_next : (due : Bool) (sections : List Emm) → length emms ≡ length sections →
        new.emms ≡ (if due then counter_after old.emms (length emms) else old.emms) →
        count_by is_entitlement (earlier ++ (items_due due sections ++ M))
        ≡ count_by is_entitlement earlier + count_by is_entitlement (items_due due sections ++ M) →
        count_by is_entitlement (items_due due sections ++ M)
        ≡ count_by is_entitlement (items_due due sections) + count_by is_entitlement M →
        new.emms ≡ count_by is_entitlement (earlier ++ (items_due due sections ++ M)) % 16
    emms_next true sections many next on both =
        let due' = emms_due true sections in
        let none = emms_of_message message old.places.items in
        let after : new.emms ≡ (count_by is_entitlement earlier + length emms) % 16 =
        next ∙ (ap (λ (c : ℕ). counter_after c (length emms)) sent.emms_are
        ∙ counter_is (count_by is_entitlement earlier) (length emms)) in
        omega (arith, after, on, both, due', none, many)
    emms_next false sections many next on both =
        let due' = emms_due false sections in
        let none = emms_of_message message old.places.items in
        omega (arith, next, on, both, due', none, sent.emms_are)

-- after a carried packet the counters are those before it
pub carried_next : (site : SiteFields) (earlier : List Item) (k : ℕ) (packet : List ℕ) (sender : Sender) →
    HasSentItems site earlier sender →
    HasSentItems site (earlier ++ Carries k packet ∷ []) sender
carried_next site earlier k packet sender sent = record {
  cat_is = sent.cat_is;
  cats_are = sent.cats_are ∙ ap (λ (n : ℕ). n % 16) (sym (none_counted is_cat_item earlier (Carries k packet) refl));
  emms_are = sent.emms_are ∙ ap (λ (n : ℕ). n % 16) (sym (none_counted is_entitlement earlier (Carries k packet) refl));
  ecms_are = sent.ecms_are ∙ ap (λ (n : ℕ). n % 16) (sym (none_counted is_ecm_item earlier (Carries k packet) refl));
}
