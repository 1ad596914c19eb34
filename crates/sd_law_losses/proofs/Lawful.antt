-- A broadcast and the card of a leaf of its site keep the laws.
use Rattle.std.proofs.Common.{◌≡◌, ◌≢◌, ℕ, ◌+◌, ◌%◌, ◌^◌, ◌<◌, ◌≤◌, ◌==◌, Bool, true, false, List, [], ◌∷◌, ◌++◌}
use Rattle.std.proofs.Common.{length, take, Some, None, refl, sym, ap, ◌∙◌, arith, append_assoc, append-nil}
use Rattle.std.proofs.Common.{length-take-le}
use Rattle.std.specs.Prelude.{Contains, reverse, if◌then◌else◌}
use Rattle.std.specs.List.{list_any}
use Rattle.std.proofs.lemmas.Bool.Decides.{nat_tests}
use Rattle.std.proofs.lemmas.List.{reverse-reverse}
use Rattle.std.proofs.lemmas.List.Elements.{All-get_or}
use Rattle.sd_base.proofs.Lists.{equal_bytes}
use Rattle.sd_tree_keys.specs.Leaves.{is_member}
use Rattle.sd_packet.specs.Header.{scrambling_of}
use Rattle.sd_tree_keys.specs.Keys.{period_key_of, control_word_of, check_value_of}
use Rattle.sd_site_cards.specs.CardFields.{card_of, site_card}
use Rattle.sd_message.specs.EmmSpelled.{listed_entries}
use Rattle.sd_message.specs.Period.{emms_of}
use Rattle.sd_message.specs.declared.emm.Emm.{Emm}
use Rattle.sd_message.specs.EcmParts.{Message, IsMessage, parts_of}
use Rattle.sd_message.specs.declared.ecm_part.EcmPart.{EcmPart}
use Rattle.sd_spec.specs.Plan.{Plan, IsPlan, word_of}
use Rattle.sd_spec.specs.Kinds.{kind_of, is_scrambled}
use Rattle.sd_spec.specs.Messages.{period_at}
use Rattle.sd_spec.specs.Refused.{IsSendable}
use Rattle.sd_spec.specs.Sent.{Item, Cat, Entitles, Controls, Carries, is_alike}
use Rattle.sd_spec.specs.declared.kind.Kind.{Kind}
use Rattle.sd_spec.specs.declared.kind.Kind.TheVariants.{Passed, Pmt, Scrambled}
use Rattle.sd_law_broadcast.specs.Packets.{IsWholePacket, AreWholePackets}
use Rattle.sd_law_broadcast.specs.Numbered.{numbered_message}
use Rattle.sd_law_broadcast.specs.Headers.{control_in, IsCarriedWith}
use Rattle.sd_law_broadcast.proofs.Clear.{each_clear, accepted}
use Rattle.sd_law_broadcast.proofs.Carrying.{carried_keeps, moves_alike, kind_placed}
use Rattle.sd_law_broadcast.proofs.Numbers.{numbered_fits}
use Rattle.sd_law_losses.specs.Told.{heard_of}
use Rattle.sd_law_losses.proofs.Alike.{any_two}
use Rattle.sd_law_losses.proofs.Keyed.{key_due, check_due, word_due, word_check_due}
use Rattle.sd_law_losses.proofs.HeardHearing.{cat_taken, no_other_taken, items_heard}
use Rattle.sd_law_losses.proofs.Back.{clear_back, scrambled_back}
use Rattle.sd_law_losses.proofs.Lists.{reverse_cons}
use Rattle.sd_law_losses.proofs.HeardParts.{some_part, part_stands, parts_tell}
use Rattle.sd_law_losses.proofs.HeardLater.{never_back}
use Rattle.sd_spec.specs.Stretches.{message_told}
use Rattle.sd_spec.specs.Keys.{key_from}
use Rattle.sd_law_losses.specs.Confirmed.{packet_at}
use Rattle.sd_law_losses.proofs.Coming.{AreParts, is_nil}
use Rattle.sd_law_losses.proofs.Setting.{Setting, IsDue, IsOpen, IsVeiled, AreLaws, told_by, carried_at, key_where}
use Rattle.sd_spec.specs.Items.{IsOfBroadcast}
use Rattle.sd_spec.proofs.Periods.{section_number}
use Rattle.sd_site_cards.specs.SiteFields.{run_name_of as site_name}
use Rattle.sd_law_broadcast.proofs.Runs.{section_names, part_names}
use Rattle.sd_law_broadcast.proofs.Texts.{kind_is}
use Rattle.sd_law_losses.proofs.OneRun.{IsOfRun, of_named}
use Rattle.sd_law_losses.proofs.Hearing.{AreHearable, heard_as, is_cat_item}

-- the card of leaf u
abbrev pub setting : Plan → List (List ℕ) → ℕ → Setting
setting plan clear u =
    record { plan = plan; clear = clear; card = site_card plan.site u }

-- the parts of a message, from some place on
parts_from : (message : Message) (prior rest : List EcmPart) → IsMessage message →
    parts_of message ≡ reverse prior ++ rest → AreParts message prior rest
parts_from message prior [] is same =
    let turned : reverse (parts_of message) ≡ prior =
    ap reverse (same ∙ append-nil (reverse prior)) ∙ reverse-reverse prior in
    ap message_told (sym turned) ∙ parts_tell message
parts_from message prior (part ∷ rest) is same =
    let stands = part_stands message prior part rest is same in
    let next : parts_of message ≡ reverse (part ∷ prior) ++ rest =
    same ∙ (sym (append_assoc (reverse prior) (part ∷ []) rest)
    ∙ ap (λ (xs : List EcmPart). xs ++ rest) (sym (reverse_cons part prior))) in (
      record {
        number = stands.number;
        place = stands.place;
        count = stands.last;
        good = stands.right;
      },
      parts_from message (part ∷ prior) rest is next,
    )

-- a message has a part
some_nil : (parts : List EcmPart) → 1 ≤ length parts → is_nil parts ≡ false
some_nil [] some = absurd (omega (arith, some))
some_nil (part ∷ parts) some = refl

-- the key where it is due, by the test
key_by : (s : Setting) (q : ℕ) (b : Bool) →
    (if b then Some (period_key_of s.plan.site.master q) else None) ≡ key_where s q b
key_by s q true = refl
key_by s q false = refl

height_is : (plan : Plan) (clear : List (List ℕ)) (u : ℕ) → (setting plan clear u).card.height ≡ plan.site.height
unfolding card_of
height_is plan clear u = refl

ca_is : (plan : Plan) (clear : List (List ℕ)) (u : ℕ) → (setting plan clear u).card.ca ≡ plan.site.ca
unfolding card_of
ca_is plan clear u = refl

-- messages by their numbers
told_is : (s : Setting) (a : ℕ) → told_by s a ≡ numbered_message s.plan s.clear a
unfolding told_by numbered_message
told_is s a = refl

-- kinds by the test
clear_kind : (kind : Kind) → is_scrambled kind ≡ false → kind ≢ Scrambled
clear_kind Passed e = λ is. absurd (cc)
clear_kind Pmt e = λ is. absurd (cc)
clear_kind Scrambled e = absurd (cc)

clear_control : (kind : Kind) (t : ℕ) → is_scrambled kind ≡ false → control_in kind t ≡ 0
clear_control Passed t e = refl
clear_control Pmt t e = refl
clear_control Scrambled t e = absurd (cc)

scrambled_control : (kind : Kind) (t : ℕ) → is_scrambled kind ≡ true → control_in kind t ≡ 2 + t % 2
scrambled_control Passed t e = absurd (cc)
scrambled_control Pmt t e = absurd (cc)
scrambled_control Scrambled t e = refl

-- the key of a section
section_key : (plan : Plan) (clear : List (List ℕ)) (u q : ℕ) (emm : Emm) → IsPlan plan → u < 2 ^ plan.site.height →
    Contains (emms_of (period_at plan q)) emm →
    key_from (setting plan clear u).card emm ≡ key_where (setting plan clear u) q
    (list_any (λ entry. is_member plan.site.height entry.name (setting plan clear u).card.leaf) (listed_entries emm))
unfolding card_of
section_key plan clear u q emm is leaf m =
    key_due plan q u emm is leaf m
    ∙ key_by (setting plan clear u) q (list_any (λ entry. is_member plan.site.height entry.name u) (listed_entries emm))

module _ (plan : Plan) (clear : List (List ℕ)) (u : ℕ) (is : IsPlan plan) (all : IsSendable plan.site clear)
    (whole : AreWholePackets clear) (leaf : u < 2 ^ plan.site.height) where
  -- the setting
  abbrev s : Setting
  s = setting plan clear u

  section_due : (q : ℕ) (emm : Emm) → Contains (emms_of (period_at plan q)) emm → IsDue s q emm
  section_due q emm m = record {
    period = section_number plan q emm m;
    key = section_key plan clear u q emm is leaf m;
    check = equal_bytes (check_value_of (period_key_of plan.site.master q)) emm.check (sym (check_due plan q emm m));
  }

  -- the header of packet j as it is carried
  keeps : (j : ℕ) → j < length clear →
      IsCarriedWith (control_in (kind_of (take j clear) (packet_at clear j)) (word_of plan.site j))
      (packet_at clear j)
      (carried_at s j)
  unfolding carried_at
  keeps j within =
      let long : length (take j clear) ≡ j = length-take-le j clear (omega (arith, within)) in
      let taken = accepted plan.site (take j clear) (packet_at clear j) (each_clear plan.site clear j all within) in
      rw long at (carried_keeps plan.site (take j clear) (packet_at clear j)
      (All-get_or IsWholePacket clear j [] within whole) taken.clear)

  packet_opened : (j : ℕ) → j < length clear → is_scrambled (kind_of (take j clear) (packet_at clear j)) ≡ false →
      IsOpen s j
  unfolding carried_at
  packet_opened j within kind = record {
    clear = zero_control ((keeps j within).scrambling
        ∙ clear_control (kind_of (take j clear) (packet_at clear j)) (word_of plan.site j) kind);
    again = λ segment ca ecm. clear_back plan.site (take j clear) (packet_at clear j) segment
        (All-get_or IsWholePacket clear j [] within whole) (each_clear plan.site clear j all within)
        (ca ∙ ca_is plan clear u) ecm (clear_kind (kind_of (take j clear) (packet_at clear j)) kind);
  }
    where
      zero_control : scrambling_of (carried_at s j) ≡ 0 → (scrambling_of (carried_at s j) == 0) ≡ true
      zero_control zero' = grind (arith, nat_tests, zero')

  packet_veiled : (j : ℕ) → j < length clear → is_scrambled (kind_of (take j clear) (packet_at clear j)) ≡ true →
      IsVeiled s j
  unfolding carried_at
  packet_veiled j within kind =
      let long : length (take j clear) ≡ j = length-take-le j clear (omega (arith, within)) in
      let scrambled = kind_is (kind_of (take j clear) (packet_at clear j)) kind in
      let header = keeps j within in
      let control : scrambling_of (carried_at s j) ≡ 2 + word_of plan.site j % 2 =
      header.scrambling ∙ scrambled_control (kind_of (take j clear) (packet_at clear j)) (word_of plan.site j) kind in
      let placed = kind_placed (take j clear) (packet_at clear j) (λ passed. absurd (cc)) in
      record {
        veiled = grind (arith, nat_tests, control);
        parity = grind (arith, nat_tests, control);
        placed = rw (header.pid, header.start) placed;
        pid = header.pid;
        clear_placed = placed;
        again = rw long at (scrambled_back plan.site (take j clear) (packet_at clear j)
            (All-get_or IsWholePacket clear j [] within whole) (each_clear plan.site clear j all within) scrambled);
      }

  -- the laws hold
  pub laws_hold : AreLaws s
  laws_hold = record {
    range = is.site;
    height = height_is plan clear u;
    due = section_due;
    same = λ q a b m n. any_two (period_at plan q) a b m n;
    parts = λ a within. rw (told_is s a) (parts_from (numbered_message plan clear a) []
        (parts_of (numbered_message plan clear a))
        (numbered_fits plan clear a is all within) refl);
    some = λ a within. rw (told_is s a) (some_nil (parts_of (numbered_message plan clear a)) (some_part
        (numbered_message plan clear a)));
    forth = λ a b below within. rw (told_is s a, told_is s b) (never_back plan clear a b is below within);
    word = λ a within. rw (told_is s a) (word_due plan clear a);
    check = λ a within. rw (told_is s a)
        (equal_bytes (check_value_of (control_word_of plan.site.master (numbered_message plan clear a).word))
        (numbered_message plan clear a).check (sym (word_check_due plan clear a)));
    moves = λ j pid x within. moves_alike
        (control_in (kind_of (take j clear) (packet_at clear j)) (word_of plan.site j)) pid x (packet_at clear j)
        (carried_at s j) (keeps j within);
    opened = packet_opened;
    veiled = packet_veiled;
  }

-- a thing is heard as what it is
heard_same : (n : ℕ) (item : Item) → heard_of n item ≡ heard_as n item
heard_same n Cat = refl
heard_same n (Entitles emm) = refl
heard_same n (Controls part) = refl
heard_same n (Carries k packet) = refl

no_cat : (item : Item) → is_cat_item item ≡ false → is_alike Cat item ≡ false
no_cat Cat e = absurd (cc)
no_cat (Entitles emm) e = refl
no_cat (Controls part) e = refl
no_cat (Carries k packet) e = refl

-- and no message of it names another run
item_named : (plan : Plan) (clear : List (List ℕ)) (n : ℕ) (item : Item) → IsOfBroadcast plan clear item →
    IsOfRun (site_name plan.site) (heard_as n item)
item_named plan clear n Cat is = refl
item_named plan clear n (Entitles emm) is = of_named (site_name plan.site) emm.run (section_names plan clear emm is)
item_named plan clear n (Controls part) is = of_named (site_name plan.site) part.run (part_names plan clear part is)
item_named plan clear n (Carries k packet) is = refl

-- so the things of the broadcast can be heard
pub can_be_heard : (plan : Plan) (clear : List (List ℕ)) (u : ℕ) → IsPlan plan → IsSendable plan.site clear →
    AreWholePackets clear → AreHearable (setting plan clear u)
unfolding card_of
can_be_heard plan clear u is all whole = record {
  heard_is = λ n earlier item of'. items_heard plan clear earlier n item is all whole of' ∙ heard_same n item;
  named = λ n item of'. item_named plan clear n item of';
  tuning = λ earlier. cat_taken plan earlier is;
  untuned = λ earlier item of' other. no_other_taken plan clear earlier item is all whole of' (no_cat item other);
}
