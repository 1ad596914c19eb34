-- One step of a head end.
use Rattle.std.proofs.Common.{◌≡◌, ℕ, ◌-◌, ◌%◌, ◌==◌, Bool, true, List, [], ◌∷◌, ◌++◌, length}
use Rattle.std.proofs.Common.{inl, refl, sym, ap, subst, ◌∙◌, arith, append_assoc, append-nil, length-append}
use Rattle.std.specs.Prelude.{map, Option, Some, None, IsSome, Err}
use Rattle.std.specs.List.{concat}
use Rattle.std.specs.Option.{option_map_or}
use Rattle.sd_tree_keys.specs.Keys.{control_word_of}
use Rattle.sd_site_cards.specs.declared.site.Site.{Site}
use Rattle.sd_site_cards.specs.SiteFields.{SiteFields, site_fields_of}
use Rattle.sd_engine.specs.declared.stage.StageFault.TheVariants.{Refused}
use Rattle.sd_engine.proofs.Answering.{Answer, same_refusal}
use Rattle.sd_message.specs.declared.ecm_message.EcmHead.{EcmHead}
use Rattle.sd_spec.specs.Plan.{Plan, crypto_length, crypto_of, word_in, word_of, period_in, period_of}
use Rattle.sd_spec.specs.Plan.{closing_number}
use Rattle.sd_spec.specs.Carried.{carried}
use Rattle.sd_spec.specs.Messages.{places_after}
use Rattle.sd_spec.specs.Refused.{unsent_at, unsent_from, IsSendable}
use Rattle.sd_message.specs.declared.clear_fault.ClearFault.{ClearFault}
use Rattle.sd_spec.specs.Sent.{Item, sent, sent_from, bytes_added, closing_of, packets_from, message_before}
use Rattle.sd_head.specs.After.{IsClearAfter as IsKept}
use Rattle.sd_head.specs.Kept.{plan_of, uncounted, AreAlikeButCounters, IsPeriodState}
use Rattle.sd_head.specs.declared.entitling.Entitling.{Entitling}
use Rattle.sd_head.specs.Messages.{head_of_ecm, message_due}
use Rattle.sd_head.specs.Items.{HasSentItems, HasPlaced, HasCountersAfter, tables_bytes, message_bytes}
use Rattle.sd_head.specs.Schedule.{IsPeriodAt}
use Rattle.sd_head.specs.Staged.{plan_of_head, head_closes, head_sends, IsHeadEndAfter, IsOn, IsHeadReady}
use Rattle.sd_head.specs.Staged.{RefusesClearPacket}
use Rattle.sd_head.specs.declared.fault.HeadFault.{HeadFault}
use Rattle.sd_head.specs.declared.sender.Sender.{Sender}
use Rattle.sd_head.specs.declared.head.Head.{Head}
use Rattle.sd_head.proofs.Starting.{at_next, revoked_now}
use Rattle.sd_book.specs.Commands.{revoked}
use Rattle.sd_head.proofs.Counting.{items_of, of_sections}
use Rattle.sd_head.proofs.Added.{sections_at, emms_are, message_stands, added_bytes, added_next, closing_bytes}
use Rattle.sd_head.proofs.Added.{word_is, crypto_number, crypto_word}

-- where none of some is the first refusal, the next one decides
pub none_then : {F : Type 0} → (first : Option F) (rest more : Option F) → option_map_or Some first rest ≡ None →
    (rest ≡ None → more ≡ None) →
    option_map_or Some first more ≡ None
none_then None rest more h f = f h
none_then (Some x) rest more h f = absurd cc

-- packets that can be sent and one more that can be can be sent
still_sendable : (site : SiteFields) (start packets : List (List ℕ)) (packet : List ℕ) →
    unsent_from site start packets ≡ None →
    unsent_at site (start ++ packets) (length (start ++ packets)) packet ≡ None →
    unsent_from site start (packets ++ packet ∷ []) ≡ None
unfolding unsent_from
still_sendable site start [] packet h now =
    ap (λ (r : Option ClearFault). option_map_or Some r None)
    (subst (λ (b : List (List ℕ)). unsent_at site b (length b) packet ≡ None) (append-nil start) now)
still_sendable site start (first ∷ packets) packet h now =
    none_then (unsent_at site start (length start) first) (unsent_from site (start ++ first ∷ []) packets)
    (unsent_from site (start ++ first ∷ []) (packets ++ packet ∷ [])) h
    (λ rest. still_sendable site (start ++ first ∷ []) packets packet rest
    (subst (λ (b : List (List ℕ)). unsent_at site b (length b) packet ≡ None)
    (sym (append_assoc start (first ∷ []) packets)) now))

-- each packet of none can be sent
pub none_sendable : (site : SiteFields) → IsSendable site []
unfolding unsent_from
none_sendable site = refl

-- for none nothing is sent
pub sent_none : (plan : Plan) → sent plan [] ≡ []
unfolding sent_from
sent_none plan = refl

-- the counters stay where the positions alone change
placed_sent : (site : SiteFields) (earlier : List Item) (old new : Sender) → HasPlaced old new →
    HasSentItems site earlier old →
    HasSentItems site earlier new
placed_sent site earlier old new placed has = record {
  cat_is = placed.cat ∙ has.cat_is;
  cats_are = placed.cats ∙ has.cats_are;
  emms_are = placed.emms ∙ has.emms_are;
  ecms_are = placed.ecms ∙ has.ecms_are;
}

-- what comes of the calls for a packet
pub record Comes (s : Head) (packet : List ℕ) (entitling : Entitling) (m : Sender) (due : Bool) (emms : List (List ℕ))
    (message : Option EcmHead) (veiled : List ℕ) : Type 0 where
  pub judged : (before : List (List ℕ)) → IsKept before s.clear →
      unsent_at (site_fields_of s.site) before (length before) packet ≡ None
  pub at_work : IsPeriodState (plan_of_head s) (crypto_of (site_fields_of s.site) s.clear.count) entitling
  pub placed : HasPlaced s.sender m
  pub due_is : due ≡ (s.clear.count % crypto_length (site_fields_of s.site) == 0)
  pub emms_of : AreAlikeButCounters emms entitling.emms.items
  pub message_of : message ≡ message_due (site_fields_of s.site) entitling.crypto s.clear.count
  pub places_are : (before : List (List ℕ)) → IsKept before s.clear → IsSome message →
      m.places.items ≡ places_after before
  pub carried_is : (before : List (List ℕ)) → IsKept before s.clear →
      entitling.crypto.number ≡ word_of (site_fields_of s.site) (length before) →
      entitling.crypto.word ≡ control_word_of s.site.master entitling.crypto.number →
      veiled ≡ carried (site_fields_of s.site) before packet

-- and of the stage after it
pub record Leads (s t : Head) (packet : List ℕ) (m : Sender) (due : Bool) (emms : List (List ℕ))
    (message : Option EcmHead) : Type 0 where
  pub site_is : t.site ≡ s.site
  pub book_is : t.entitling.book ≡ s.entitling.book
  pub refusal_is : t.refusal ≡ s.refusal
  pub taken : (before : List (List ℕ)) → IsKept before s.clear → IsKept (before ++ packet ∷ []) t.clear
  pub follows : HasCountersAfter m due emms message t.sender

module _ (s t : Head) (packet : List ℕ) (m : Sender) (due : Bool) (emms : List (List ℕ)) (message : Option EcmHead)
    (veiled : List ℕ)
    (comes : Comes s packet t.entitling m due emms message veiled) (leads : Leads s t packet m due emms message) where
  -- the message is that before the packet
  told : (before : List (List ℕ)) → IsHeadEndAfter (plan_of_head s) before s →
      items_of message m.places.items ≡ message_before (plan_of_head s) before
  told before after =
      subst (λ (head : Option EcmHead). items_of head m.places.items ≡ message_before (plan_of_head s) before)
      (sym comes.message_of)
      (message_stands (plan_of_head s) before t.entitling.crypto s.clear.count m.places.items after.clear_is.number
      comes.at_work.crypto
      (λ some. comes.places_are before after.clear_is (subst IsSome (sym comes.message_of) some)))

  -- the period's packets are those of the packet's period
  listed : (before : List (List ℕ)) → IsHeadEndAfter (plan_of_head s) before s →
      map uncounted emms ≡ of_sections (site_fields_of s.site) (sections_at (plan_of_head s) (length before))
  listed before after =
      comes.emms_of ∙ (emms_are (plan_of_head s) s.clear.count t.entitling comes.at_work
      ∙ ap (λ (n : ℕ). of_sections (site_fields_of s.site) (sections_at (plan_of_head s) n)) after.clear_is.number)

  -- the tables are due where they stand
  is_due : (before : List (List ℕ)) → IsHeadEndAfter (plan_of_head s) before s →
      due ≡ (length before % crypto_length (site_fields_of s.site) == 0)
  is_due before after =
      comes.due_is ∙ ap (λ (n : ℕ). n % crypto_length (site_fields_of s.site) == 0) after.clear_is.number

  -- the packet is as it is carried
  veiled_is : (before : List (List ℕ)) → IsHeadEndAfter (plan_of_head s) before s →
      veiled ≡ carried (site_fields_of s.site) before packet
  veiled_is before after =
      let n = crypto_of (site_fields_of s.site) s.clear.count in
      let q = period_in (plan_of_head s) n in
      let t' = word_in (site_fields_of s.site) n in
      let number = crypto_number t.entitling.crypto s.site.master q t' comes.at_work.crypto in
      let word = crypto_word t.entitling.crypto s.site.master q t' comes.at_work.crypto in
      comes.carried_is before after.clear_is (number
      ∙ (word_is (site_fields_of s.site) s.clear.count ∙ ap (word_of (site_fields_of s.site)) after.clear_is.number))
      (word ∙ ap (control_word_of s.site.master) (sym number))

  -- after it the stage stands after the packet
  stands : (before : List (List ℕ)) → IsHeadEndAfter (plan_of_head s) before s →
      IsHeadEndAfter (plan_of_head s) (before ++ packet ∷ []) t
  stands before after =
      let has = placed_sent (site_fields_of s.site) (sent (plan_of_head s) before) s.sender m comes.placed
      after.has_sent in
      record {
        keeps_to = ap (λ (x : Site). plan_of x t.entitling.book) leads.site_is ∙ ap (plan_of s.site) leads.book_is;
        unrefused = leads.refusal_is ∙ after.unrefused;
        are_sendable = still_sendable (site_fields_of s.site) [] before packet after.are_sendable
            (comes.judged before after.clear_is);
        clear_is = leads.taken before after.clear_is;
        entitled = subst (λ (k : ℕ). IsPeriodAt (plan_of_head s) k t.entitling)
            (sym (length-append before (packet ∷ [])))
            (at_next (plan_of_head s) (length before) t.entitling
            (subst (λ (n : ℕ). IsPeriodState (plan_of_head s) (crypto_of (site_fields_of s.site) n) t.entitling)
            after.clear_is.number
            comes.at_work));
        has_sent = added_next (plan_of_head s) before packet due emms message m t.sender has (is_due before after)
            (listed before after)
            (told before after) leads.follows;
      }

  -- what is written is what the packet adds
  written : (before : List (List ℕ)) → IsHeadEndAfter (plan_of_head s) before s →
      (tables_bytes m due emms ++ message_bytes s.site.ecm m message) ++ veiled ≡ bytes_added (plan_of_head s) before
      packet
  written before after =
      added_bytes (plan_of_head s) before packet veiled due emms message m
      (placed_sent (site_fields_of s.site) (sent (plan_of_head s) before) s.sender m comes.placed after.has_sent)
      (is_due before after) (listed before after) (told before after) (veiled_is before after)

  -- so the step is what a head end sends of a packet
  pub sends : (steps : ℕ) →
      head_sends s packet t ((tables_bytes m due emms ++ message_bytes s.site.ecm m message) ++ veiled) steps
  sends steps = λ plan before after.
      subst (λ (q : Plan). IsHeadEndAfter q before s →
      ((tables_bytes m due emms ++ message_bytes s.site.ecm m message) ++ veiled ≡ bytes_added q before packet)
      × IsHeadEndAfter q (before ++ packet ∷ []) t)
      after.keeps_to (λ here. (written before here, stands before here)) after

  -- and it may be offered another
  pub ready : (before : List (List ℕ)) → IsHeadEndAfter (plan_of_head s) before s →
      (rest : List (List ℕ)) × IsHeadEndAfter (plan_of_head t) rest t
  ready before after =
      let there = stands before after in (
        before ++ packet ∷ [],
        subst (λ (q : Plan). IsHeadEndAfter q (before ++ packet ∷ []) t) (sym there.keeps_to)
            there,
      )

-- what comes of the calls at the end
pub record Ends (s : Head) (entitling : Entitling) (m : Sender) (due : Bool) (emms : List (List ℕ))
    (head : EcmHead) : Type 0 where
  pub at_work : IsPeriodState (plan_of_head s) (crypto_of (site_fields_of s.site) (s.clear.count - 1)) entitling
  pub placed : HasPlaced s.sender m
  pub due_is : due ≡ (s.clear.count == 0)
  pub emms_of : AreAlikeButCounters emms entitling.emms.items
  pub head_is : head ≡ head_of_ecm (site_fields_of s.site) entitling.crypto s.clear.count
      (closing_number (site_fields_of s.site) s.clear.count) true
  pub places_are : (before : List (List ℕ)) → IsKept before s.clear → m.places.items ≡ places_after before

pub ends : (s t : Head) (m : Sender) (due : Bool) (emms : List (List ℕ)) (head : EcmHead) (steps : ℕ) →
    Ends s t.entitling m due emms head →
    head_closes s t (tables_bytes m due emms ++ message_bytes s.site.ecm m (Some head)) steps
ends s t m due emms head steps comes = λ plan before after.
    subst (λ (q : Plan). IsHeadEndAfter q before s → (tables_bytes m due emms ++ message_bytes s.site.ecm m (Some head)
    ≡ concat (packets_from q.site (sent q before) (closing_of q before)))
    × (t.entitling.index.revoked ≡ revoked q.site.height q.commands (period_of q (length before - 1))))
    after.keeps_to
    (λ here. (
      closing_bytes (plan_of_head s) before t.entitling.crypto s.clear.count due emms head m
          (placed_sent (site_fields_of s.site) (sent (plan_of_head s) before) s.sender m comes.placed here.has_sent)
          here.clear_is.number comes.due_is
          (comes.emms_of ∙ emms_are (plan_of_head s) (s.clear.count - 1) t.entitling comes.at_work) comes.at_work.crypto
          comes.head_is (comes.places_are before here.clear_is),
      revoked_now (plan_of_head s) (s.clear.count - 1) t.entitling comes.at_work
          ∙ ap (λ (n : ℕ). revoked (plan_of_head s).site.height (plan_of_head s).commands (period_of (plan_of_head s)
          (n - 1)))
          here.clear_is.number,
    )) after

-- a list of no length is empty
pub none_long : (packets : List (List ℕ)) → length packets ≡ 0 → packets ≡ []
none_long [] h = refl
none_long (packet ∷ packets) h = absurd (omega (arith, h))

-- a head end that stands before the first packet may be offered it
pub begun_ready : (plan : Plan) (head : Head) → IsHeadEndAfter plan [] head → IsHeadReady head
begun_ready plan head stands = λ unrefused.
    ([], subst (λ (q : Plan). IsHeadEndAfter q [] head) (sym stands.keeps_to) stands)

-- a refusal that is kept is refused again
pub kept_refuses : (s : Head) (packet : Option (List ℕ)) (kept fault : HeadFault) → s.refusal ≡ Some kept →
    ◌≡◌ {A = Answer HeadFault} (Err (Refused kept)) (Err (Refused fault)) → RefusesClearPacket s packet fault []
kept_refuses s packet kept fault is same = record {
  nothing = refl;
  cause = inl (is ∙ ap Some (same_refusal kept fault same));
}

-- a head end that may be given a packet is at the number of packets that it took
pub at_count : (s : Head) → IsOn s → IsPeriodAt (plan_of_head s) s.clear.count s.entitling
at_count s on =
    let after = on.1 in
    subst (λ (n : ℕ). IsPeriodAt (plan_of_head s) n s.entitling) (sym after.clear_is.number) after.entitled
