-- What things that are heard come to.
use Rattle.std.proofs.Common.{◌≡◌, ℕ, List, [], ◌∷◌, length, refl, sym, ap, ◌∙◌, subst, true, false, Bool}
use Rattle.std.proofs.Common.{arith}
use Rattle.std.specs.Prelude.{Option, Some, None, is_none, not, nat_lt, Result, Ok, Err, OnOk, if◌then◌else◌}
use Rattle.std.specs.Prelude.{bytes_eq, ◌+◌, ◌≤◌}
use Rattle.std.proofs.lemmas.Bool.{le-leb, le-ltb}
use Rattle.std.specs.List.{concat}
use Rattle.sd_site_cards.specs.CardFields.{CardFields}
use Rattle.sd_tree_keys.specs.Keys.{check_value_of}
use Rattle.sd_message.specs.declared.emm.Emm.{Emm}
use Rattle.sd_message.specs.declared.emm_fault.EmmFault.{EmmFault}
use Rattle.sd_message.specs.declared.emm_fault.EmmFault.TheVariants as Emms
use Rattle.sd_message.specs.declared.ecm_part.EcmPart.{EcmPart}
use Rattle.sd_message.specs.declared.ecm_message.EcmHead.{EcmHead}
use Rattle.sd_message.specs.declared.ecm_fault.EcmFault.{EcmFault}
use Rattle.sd_engine.specs.Stage.{SinkState}
use Rattle.sd_engine.specs.declared.stage.StageFault.{StageFault}
use Rattle.sd_engine.specs.declared.stage.StageFault.TheVariants.{Write, Refused}
use Rattle.sd_engine.proofs.Chains.{took_none}
use Rattle.sd_message.specs.declared.stream_fault.StreamFault.{StreamFault}
use Rattle.sd_message.specs.declared.stream_fault.StreamFault.TheVariants as Fault
use Rattle.sd_psi.specs.declared.our_cat.Tuning.{Tuning}
use Rattle.sd_spec.specs.Heard.{Heard, Dropped, Entitles, Controls, BadEmm, BadEcm, Other}
use Rattle.sd_spec.specs.Stretches.{completes, current, sections_seen, is_closed}
use Rattle.sd_spec.specs.Keys.{key_from, key_at, key_in}
use Rattle.sd_spec.specs.Taken.{takes_key}
use Rattle.sd_spec.specs.Offered.{Offering, no_offering, refused_offering, key_offering, key_if_none, is_mixed}
use Rattle.sd_spec.specs.Offered.{emm_offering}
use Rattle.sd_spec.specs.Offered.{heard_offering}
use Rattle.sd_receive.specs.PeriodKeys.{IsEntitled, IsEmmJudged, HasFault}
use Rattle.sd_receive.specs.declared.emm.PeriodKeys.{PeriodKeys}
use Rattle.sd_receive.proofs.Keeping.{nothing_told}
use Rattle.sd_receive.proofs.Judging.{steps_of}
use Rattle.sd_receive.specs.EcmAssembler.{IsCollected, IsWaiting, IsComplete, part_fault_of}
use Rattle.sd_receive.specs.declared.ecm.EcmAssembler.{EcmAssembler}
use Rattle.sd_receive.proofs.Collecting as Collecting
use Rattle.sd_receive.specs.PacketBuffer.{Holding, held_more}
use Rattle.sd_receive.specs.Session.{IsListenerAfter, IsListenerAtMessage, CountsMore, PassesOffering}
use Rattle.sd_receive.specs.Session.{StopsAtOffering, TakesHeard, RefusesHeard, TookSome}
use Rattle.sd_receive.specs.Session.{IsStill, Judgement, SessionOutcome}
use Rattle.sd_receive.specs.declared.session.Session.{Session}
use Rattle.sd_receive.proofs.Stretching.{stays_open}
use Rattle.sd_receive.proofs.Holding.{nothing_held, held_same, held_other}
use Rattle.sd_receive.proofs.Offering.{part_waits, part_refused}

-- nothing more is counted
none_more : (n : ℕ) → CountsMore n n 0
none_more n total h = omega (arith, h)

-- a thing of which nothing is written and nothing refused
pub passes_none : (offering : Offering) (n : ℕ) → offering.fault ≡ None → offering.wrote ≡ [] →
    PassesOffering offering n n []
passes_none offering n fault wrote = record {
  fault = fault;
  bytes_are = ap concat (sym wrote);
  counted = subst (λ (ps : List (List ℕ)). CountsMore n n (length ps)) (sym wrote) (none_more n);
}

-- no packet is no byte
no_bytes : (strict : Bool) (packets : List (List ℕ)) → packets ≡ [] → [] ≡ (if strict then concat packets else [])
no_bytes true packets none = ap concat (sym none)
no_bytes false packets none = refl

pub stops_none : (strict : Bool) (offering : Offering) (why : StreamFault) → offering.fault ≡ Some why →
    offering.wrote ≡ [] → StopsAtOffering strict offering why []
stops_none strict offering why fault wrote =
    record { fault = fault; bytes_are = no_bytes strict offering.wrote wrote }

-- no byte is taken
pub took_nothing : (u : SinkState) (Says : List ℕ → Type 0) → Says [] → TookSome u u Says
took_nothing u Says says = record { bytes = []; says = says; took = took_none u }

-- nothing is changed
pub still : (card : CardFields) (s : Session) → IsStill card s s
still card s = record { follows = λ past follows. follows; written = refl }

-- a packet that is dropped
pub dropped_heard : (card : CardFields) (tuning : Tuning) (n : ℕ) (s : Session) →
    (key : Option (List ℕ)) → TakesHeard true card tuning n Dropped key s s []
dropped_heard card tuning n s key = λ past follows unclosed judged calm. (
  passes_none (heard_offering card tuning n past Dropped) s.written refl refl,
  record {
    closed = follows.closed ∙ (unclosed ∙ sym (stays_open past Dropped unclosed refl));
    keys = nothing_told card Dropped past s.keys refl follows.keys;
    assembler = Collecting.dropped past s.assembler follows.assembler;
    buffer = follows.buffer ∙ sym (held_same card past Dropped refl refl);
  },
)

-- any other packet
pub other_heard : (card : CardFields) (tuning : Tuning) (n : ℕ) (packet : List ℕ) (s t : Session) →
    t.closed ≡ s.closed →
    t.keys ≡ s.keys → t.assembler ≡ s.assembler → t.written ≡ s.written → t.buffer ≡ held_more s.buffer n packet →
    (key : Option (List ℕ)) → TakesHeard true card tuning n (Other n packet) key s t []
other_heard card tuning n packet s t closed keys assembler written buffer key =
    λ past follows unclosed judged calm. (
      subst (λ (k : ℕ). PassesOffering (heard_offering card tuning n past (Other n packet)) s.written k [])
          (sym written)
          (passes_none (heard_offering card tuning n past (Other n packet)) s.written refl refl),
      record {
        closed = closed ∙ (follows.closed ∙ (unclosed ∙ sym (stays_open past (Other n packet) unclosed refl)));
        keys = subst (λ (e : PeriodKeys). IsEntitled card (Other n packet ∷ past) e) (sym keys)
            (nothing_told card (Other n packet) past s.keys refl follows.keys);
        assembler = subst (λ (c : EcmAssembler). IsCollected (Other n packet ∷ past) c) (sym assembler)
            (Collecting.other past n packet s.assembler follows.assembler);
        buffer = buffer ∙ (ap (λ (h : Option Holding). held_more h n packet) follows.buffer ∙
            sym (held_other card past n packet));
      },
    )

-- a section writes nothing
wrote_none : (test : Bool) (a b : Offering) → a.wrote ≡ [] → b.wrote ≡ [] → (if test then a else b).wrote ≡ []
wrote_none true a b p q = p
wrote_none false a b p q = q

key_writes_none : (n : ℕ) (emm : Emm) (key : Option (List ℕ)) → (key_offering n emm key).wrote ≡ []
key_writes_none n emm None = refl
key_writes_none n emm (Some key) =
    wrote_none (bytes_eq (check_value_of key) emm.check) no_offering
    (refused_offering (Fault.WrongKey n emm.period (check_value_of key) emm.check)) refl refl

keys_write_none : (n : ℕ) (emm : Emm) (key found : Option (List ℕ)) → (key_if_none n emm key found).wrote ≡ []
keys_write_none n emm (Some key) found = refl
keys_write_none n emm None found = key_writes_none n emm found

pub section_writes_none : (card : CardFields) (n : ℕ) (past : List Heard) (emm : Emm) →
    (emm_offering card n past emm).wrote ≡ []
unfolding emm_offering
section_writes_none card n past emm =
    wrote_none (nat_lt emm.period (current past)) no_offering
    (if is_mixed (sections_seen emm.period past) emm then refused_offering (Fault.BadEmm n Emms.Mixed)
    else key_if_none n emm (key_at card past emm.period) (key_from card emm)) refl
    (wrote_none (is_mixed (sections_seen emm.period past) emm) (refused_offering (Fault.BadEmm n Emms.Mixed))
    (key_if_none n emm (key_at card past emm.period) (key_from card emm)) refl
    (keys_write_none n emm (key_at card past emm.period) (key_from card emm)))

-- an offering that writes nothing and has this fault refuses the packet
refusal_is : (offering : Offering) (why : StreamFault) → offering.wrote ≡ [] → offering.fault ≡ Some why →
    offering ≡ refused_offering why
refusal_is offering why wrote fault =
    ap (λ (w : List (List ℕ)). record { wrote = w; fault = offering.fault }) wrote
    ∙ ap (λ (f : Option StreamFault). record { wrote = []; fault = f }) fault

-- what was found of a section after what was heard
pub section_judged : (card : CardFields) (n : ℕ) (past : List Heard) (emm : Emm) (state : PeriodKeys)
    (key : Option (List ℕ)) (result : Result (Unit {0}) StreamFault) → IsEntitled card past state →
    OnOk result ((tr : List Heard) → IsEntitled card tr state → IsEmmJudged card n tr emm key) →
    ((tr : List Heard) → IsEntitled card tr state → HasFault result (emm_offering card n tr emm).fault) →
    Judgement card n past (Entitles emm) key result
section_judged card n past emm state key (Ok done) is good found = good past is
section_judged card n past emm state key (Err why) is good found = λ tuning.
    refusal_is (emm_offering card n past emm) why (section_writes_none card n past emm) (found past is)

-- before anything was heard a section's key alone is judged
first_offering : (card : CardFields) (n : ℕ) (emm : Emm) →
    emm_offering card n [] emm ≡ key_offering n emm (key_from card emm)
unfolding emm_offering current sections_seen key_in
first_offering card n emm = rw (le-ltb emm.period 0 (omega arith)) refl

none_seen : (q : ℕ) (emm : Emm) → is_mixed (sections_seen q []) emm ≡ false
unfolding sections_seen
none_seen q emm = refl

pub first_judged : (card : CardFields) (n : ℕ) (emm : Emm) (key : Option (List ℕ))
    (result : Result (Unit {0}) StreamFault) → OnOk result (key ≡ key_from card emm) →
    HasFault result (key_offering n emm (key_from card emm)).fault →
    Judgement card n [] (Entitles emm) key result
first_judged card n emm key (Ok done) is found = record {
  fault = ap (λ (o : Offering). o.fault) (first_offering card n emm) ∙ found;
  unmixed = λ h. none_seen emm.period emm;
  gives = λ h none. is;
}
first_judged card n emm key (Err why) is found = λ tuning.
    refusal_is (emm_offering card n [] emm) why (section_writes_none card n [] emm)
    (ap (λ (o : Offering). o.fault) (first_offering card n emm) ∙ found)

-- it takes a key if it gives one
first_takes : (card : CardFields) (emm : Emm) → not (is_none (key_from card emm)) ≡ takes_key card [] emm
unfolding takes_key current sections_seen key_in
first_takes card emm = rw (le-leb 0 emm.period (omega arith)) refl

pub first_steps : (card : CardFields) (emm : Emm) (before after most : ℕ) → after ≤ before + most →
    (key_from card emm ≡ None → after ≡ before) → after ≤ before + (if takes_key card [] emm then most else 0)
first_steps card emm before after most within same =
    subst (λ (b : Bool). after ≤ before + (if b then most else 0)) (first_takes card emm)
    (steps_of (key_from card emm) before after most within same)

-- a section that is taken
pub section_taken : (card : CardFields) (tuning : Tuning) (n : ℕ) (emm : Emm) (s t : Session) → t.closed ≡ s.closed →
    t.buffer ≡ s.buffer → t.assembler ≡ s.assembler → t.written ≡ s.written →
    (key : Option (List ℕ)) → ((past : List Heard) → IsEntitled card past s.keys →
    IsEmmJudged card n past emm key → IsEntitled card (Entitles emm ∷ past) t.keys) →
    TakesHeard true card tuning n (Entitles emm) key s t []
section_taken card tuning n emm s t closed buffer assembler written key keys =
    λ past follows unclosed judged calm. (
      subst (λ (k : ℕ). PassesOffering (heard_offering card tuning n past (Entitles emm)) s.written k []) (sym written)
          (passes_none (emm_offering card n past emm) s.written judged.fault
          (section_writes_none card n past emm)),
      record {
        closed = closed ∙ (follows.closed ∙ (unclosed ∙ sym (stays_open past (Entitles emm) unclosed refl)));
        keys = keys past follows.keys judged;
        assembler = subst (λ (c : EcmAssembler). IsCollected (Entitles emm ∷ past) c) (sym assembler)
            (Collecting.entitles past emm s.assembler follows.assembler);
        buffer = buffer ∙ (follows.buffer ∙ sym (held_same card past (Entitles emm) refl refl));
      },
    )

-- a part that completes nothing, and one that is refused
none_is : {A : Type 0} (o : Option A) → o ≡ None → is_none o ≡ true
none_is o none = ap is_none none

pub part_waiting : (card : CardFields) (tuning : Tuning) (n : ℕ) (part : EcmPart) (s t : Session) →
    t.closed ≡ s.closed →
    t.keys ≡ s.keys → t.buffer ≡ s.buffer → t.written ≡ s.written →
    ((past : List Heard) → IsCollected past s.assembler → current past ≡ s.keys.period →
    IsWaiting past part t.assembler) →
    TakesHeard true card tuning n (Controls part) None s t []
part_waiting card tuning n part s t closed keys buffer written waits = λ past follows unclosed judged calm.
    let waiting = waits past follows.assembler (sym follows.keys.period) in
    let offers = part_waits card tuning n past part waiting.fault waiting.incomplete in (
      subst (λ (k : ℕ). PassesOffering (heard_offering card tuning n past (Controls part)) s.written k []) (sym written)
          (passes_none (heard_offering card tuning n past (Controls part)) s.written
          (ap (λ (o : Offering). o.fault) offers)
          (ap (λ (o : Offering). o.wrote) offers)),
      record {
        closed = closed ∙ (follows.closed ∙ (unclosed ∙ sym (stays_open past (Controls part) unclosed
            waiting.incomplete)));
        keys = subst (λ (e : PeriodKeys). IsEntitled card (Controls part ∷ past) e) (sym keys)
            (nothing_told card (Controls part) past s.keys
            (none_is (completes past (Controls part)) waiting.incomplete) follows.keys);
        assembler = waiting.after;
        buffer = buffer ∙ (follows.buffer ∙ sym (held_same card past (Controls part) waiting.incomplete refl));
      },
    )

pub part_bad : (strict : Bool) (card : CardFields) (tuning : Tuning) (n : ℕ) (part : EcmPart) (s : Session)
    (fault : EcmFault) →
    ((past : List Heard) → IsCollected past s.assembler → current past ≡ s.keys.period →
    part_fault_of past part ≡ Some fault) →
    RefusesHeard strict card tuning n (Controls part) s (Fault.BadEcm n fault) []
part_bad strict card tuning n part s fault bad = λ past follows unclosed calm.
    let offers = part_refused card tuning n past part fault (bad past follows.assembler (sym follows.keys.period)) in
    stops_none strict (heard_offering card tuning n past (Controls part)) (Fault.BadEcm n fault)
    (ap (λ (o : Offering). o.fault) offers)
    (ap (λ (o : Offering). o.wrote) offers)

-- faulty sections and parts
pub bad_section : (strict : Bool) (card : CardFields) (tuning : Tuning) (n : ℕ) (fault : EmmFault) (s : Session) →
    RefusesHeard strict card tuning n (BadEmm fault) s (Fault.BadEmm n fault) []
bad_section strict card tuning n fault s = λ past follows unclosed calm.
    stops_none strict (refused_offering (Fault.BadEmm n fault)) (Fault.BadEmm n fault) refl refl

pub bad_part : (strict : Bool) (card : CardFields) (tuning : Tuning) (n : ℕ) (fault : EcmFault) (s : Session) →
    RefusesHeard strict card tuning n (BadEcm fault) s (Fault.BadEcm n fault) []
bad_part strict card tuning n fault s = λ past follows unclosed calm.
    stops_none strict (refused_offering (Fault.BadEcm n fault)) (Fault.BadEcm n fault) refl refl

-- what more is said of what comes
pub comes_weaker : (T S : Session → List ℕ → Type 0) (R Q : StreamFault → List ℕ → Type 0) (C D : List ℕ → Type 0)
    (u v : SinkState) (t : Session)
    (result : Result (Unit {0}) (StageFault StreamFault)) → ((x : Session) (bytes : List ℕ) → T x bytes → S x bytes) →
    ((fault : StreamFault) (bytes : List ℕ) → R fault bytes → Q fault bytes) →
    ((bytes : List ℕ) → C bytes → D bytes) → SessionOutcome T R C u v t result → SessionOutcome S Q D u v t result
comes_weaker T S R Q C D u v t (Ok done) takes refused_offering cuts comes =
    record { bytes = comes.bytes; says = takes t comes.bytes comes.says; took = comes.took }
comes_weaker T S R Q C D u v t (Err (Refused fault)) takes refused_offering cuts comes =
    record { bytes = comes.bytes; says = refused_offering fault comes.bytes comes.says; took = comes.took }
comes_weaker T S R Q C D u v t (Err Write) takes refused_offering cuts comes = record {
  bytes = comes.bytes;
  says = cuts comes.bytes comes.says;
  prefix = comes.prefix;
  short = comes.short;
  taken = comes.taken;
  room = comes.room;
}

-- what is kept of control messages is of what was heard still
pub part_left : (card : CardFields) (past : List Heard) (s t : Session) → t.closed ≡ s.closed →
    t.keys ≡ s.keys → t.buffer ≡ s.buffer → IsCollected past t.assembler → IsListenerAfter card past s →
    IsListenerAfter card past t
part_left card past s t closed keys buffer collects follows = record {
  closed = closed ∙ follows.closed;
  keys = subst (λ (e : PeriodKeys). IsEntitled card past e) (sym keys) follows.keys;
  assembler = collects;
  buffer = buffer ∙ follows.buffer;
}

-- a part that completes a message is taken as the message is
pub message_heard : (card : CardFields) (tuning : Tuning) (n : ℕ) (part : EcmPart) (head : EcmHead) (s t : Session) →
    t.closed ≡ s.closed → t.keys ≡ s.keys → t.buffer ≡ s.buffer →
    ((past : List Heard) → IsCollected past s.assembler → current past ≡ s.keys.period →
    IsComplete past part head t.assembler) →
    (past : List Heard) → IsListenerAfter card past s → is_closed past ≡ false →
    IsListenerAtMessage card past part head t
message_heard card tuning n part head s t closed keys buffer complete = λ past follows unclosed.
    let done = complete past follows.assembler (sym follows.keys.period) in
    record {
      unclosed = unclosed;
      follows = part_left card past s t closed keys buffer done.before follows;
      assembler = done;
    }

-- nothing was heard
pub follows_none : (card : CardFields) (t : Session) → t.closed ≡ false → IsEntitled card [] t.keys →
    IsCollected [] t.assembler →
    t.buffer ≡ None → IsListenerAfter card [] t
unfolding is_closed
follows_none card t closed keys assembler buffer = record {
  closed = closed;
  keys = keys;
  assembler = assembler;
  buffer = buffer ∙ sym (nothing_held card);
}
