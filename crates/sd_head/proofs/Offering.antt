-- A head end's answers as those of a stage.
use Rattle.std.proofs.Common.{◌≡◌, ℕ, true, List, [], length, inl, inr, refl, sym, ap, subst, ◌∙◌, arith}
use Rattle.std.specs.Prelude.{Option, Some, None, Result, Ok, Err, OnOk}
use Rattle.sd_base.specs.Count.{IsCaused}
use Rattle.sd_site_cards.specs.SiteFields.{SiteFields, site_fields_of}
use Rattle.sd_engine.specs.Stage.{SinkState, HasGrown, IsCutShort, IsAllowed}
use Rattle.sd_engine.proofs.Chains.{took_none}
use Rattle.sd_message.specs.declared.clear_fault.ClearFault.{ClearFault}
use Rattle.sd_spec.specs.Plan.{Plan}
use Rattle.sd_spec.specs.Refused.{refusal_of, end_refusal}
use Rattle.sd_head.specs.Follows.{IsJudgement}
use Rattle.sd_head.specs.Schedule.{begins_with, IsDue}
use Rattle.sd_head.specs.After.{IsClearAfter as IsKept}
use Rattle.sd_head.specs.Staged.{plan_of_head, head_closes, head_does, head_ends, head_refuses, head_sends}
use Rattle.sd_head.specs.Staged.{IsHeadEndAfter}
use Rattle.sd_head.specs.Staged.{IsOfSent, RefusesClearPacket}
use Rattle.sd_head.specs.declared.fault.HeadFault.{HeadFault}
use Rattle.sd_head.specs.declared.fault.HeadFault.TheVariants.{Clear, NoMemory}
use Rattle.sd_head.specs.declared.head.Head.{Head}
use Rattle.sd_head.specs.declared.judged.Judged.{Judged}
use Rattle.sd_head.specs.declared.judged.PatRule.TheVariants.{Asked}
use Rattle.sd_head.proofs.Stepping.{none_long}

-- a sink grew by bytes of which one thing holds, and so another
pub grown_says : {P Q : List ℕ → ℕ → Type 0} {a b : SinkState} {from to : ℕ} → HasGrown a b from to P →
    ((bytes : List ℕ) (steps : ℕ) → P bytes steps → Q bytes steps) → HasGrown a b from to Q
grown_says grown says = record {
  bytes = grown.bytes;
  steps = grown.steps;
  says = says grown.bytes grown.steps grown.says;
  taken = grown.taken;
  room = grown.room;
  counted = grown.counted;
}

-- a write failed within bytes of which one thing holds, and so another
pub cut_says : {P Q : List ℕ → Type 0} {a b : SinkState} → IsCutShort a b P →
    ((bytes : List ℕ) → P bytes → Q bytes) → IsCutShort a b Q
cut_says cut says = record {
  bytes = cut.bytes;
  says = says cut.bytes cut.says;
  prefix = cut.prefix;
  short = cut.short;
  taken = cut.taken;
  room = cut.room;
}

-- nothing was written
pub grown_nothing : (P : List ℕ → ℕ → Type 0) (a b : SinkState) (from to : ℕ) → b ≡ a → P [] to →
    HasGrown a b from to P
grown_nothing P a b from to same says = rw same (let none = took_none a in record {
  bytes = [];
  steps = to;
  says = says;
  taken = none.taken;
  room = none.room;
  counted = omega arith;
})

-- of a success one thing holds, and so another
pub on_ok : {T E P Q : Type 0} (result : Result T E) → OnOk result P → (P → Q) → OnOk result Q
on_ok (Ok value) holds f = f holds
on_ok (Err fault) holds f = tt

-- a success is no fault, and one fault is another where their answers are
ok_is_no_fault : {T E : Type 0} (value : T) (fault : E) → ◌≡◌ {A = Result T E} (Ok value) (Err fault) → ⊥
ok_is_no_fault value fault same = cc

pub same_fault : {T E : Type 0} (a b : E) → ◌≡◌ {A = Result T E} (Err a) (Err b) → a ≡ b
same_fault a b same = cc

-- so a success has no cause, whatever its value is
pub no_cause : {T U E : Type 0} (before now : ℕ) (value : T) (other : U) (fault : E) →
    IsCaused before now (◌≡◌ {A = Result T E} (Ok value) (Err fault)) →
    IsCaused before now (◌≡◌ {A = Result U E} (Ok other) (Err fault))
no_cause before now value other fault caused = record {
  later = caused.later;
  failed = λ failed. absurd (ok_is_no_fault other fault failed);
  calm = λ calm. caused.calm (ok_is_no_fault value fault);
}

-- the site of the plan is the head end's
pub site_is : (plan : Plan) (before : List (List ℕ)) (head : Head) → IsHeadEndAfter plan before head →
    site_fields_of head.site ≡ plan.site
site_is plan before head after = ap (λ (p : Plan). p.site) after.keeps_to

-- of a packet that is judged by all rules
module _ (s : Head) (packet : List ℕ) where
  due_clear : (fault : ClearFault) → IsJudgement Asked (site_fields_of s.site) s.clear packet (Err fault) →
      (plan : Plan) (before : List (List ℕ)) → IsHeadEndAfter plan before s → refusal_of plan.site before packet
      ≡ Some fault
  unfolding refusal_of
  due_clear fault told plan before after =
      subst (λ (site : SiteFields). refusal_of site before packet ≡ Some fault) (site_is plan before s after)
      (told.value before after.clear_is)

  right_clear : (judged : Judged) → IsJudgement Asked (site_fields_of s.site) s.clear packet (Ok judged) →
      (plan : Plan) (before : List (List ℕ)) → IsHeadEndAfter plan before s → refusal_of plan.site before packet ≡ None
  unfolding refusal_of
  right_clear judged told plan before after =
      subst (λ (site : SiteFields). refusal_of site before packet ≡ None) (site_is plan before s after)
      (told.value before after.clear_is)

  -- a refusal of it
  pub refuses_clear : (result : Result Judged ClearFault) (found : ClearFault) (fault : HeadFault) →
      IsJudgement Asked (site_fields_of s.site) s.clear packet result → result ≡ Err found → Clear found ≡ fault →
      RefusesClearPacket s (Some packet) fault []
  refuses_clear result found fault told is same = record {
    nothing = refl;
    cause = inr (λ plan before after. subst (IsDue plan before (Some packet)) same
        (due_clear found (subst (IsJudgement Asked (site_fields_of s.site) s.clear packet) is told) plan before after));
  }

  -- want of memory for it
  pub refuses_memory : (result : Result Judged ClearFault) (judged : Judged) (fault : HeadFault) →
      IsJudgement Asked (site_fields_of s.site) s.clear packet result → result ≡ Ok judged →
      begins_with (plan_of_head s) s.clear.count ≡ true → NoMemory ≡ fault → RefusesClearPacket s (Some packet) fault []
  refuses_memory result judged fault told is begins same = record {
    nothing = refl;
    cause = inr (λ plan before after. subst (IsDue plan before (Some packet)) same (
      right_clear judged (subst (IsJudgement Asked (site_fields_of s.site) s.clear packet) is told) plan before after,
      subst (λ (p : Plan). begins_with p (length before) ≡ true) after.keeps_to
          (subst (λ (n : ℕ). begins_with (plan_of_head s) n ≡ true) after.clear_is.number begins),
    ));
  }

  -- what is sent of it
  pub does_of : (result : Result Judged ClearFault) (judged : Judged) (t : Head) (bytes : List ℕ) (steps : ℕ) →
      IsJudgement Asked (site_fields_of s.site) s.clear packet result → result ≡ Ok judged →
      head_sends s packet t bytes steps → head_does s packet t bytes steps
  does_of result judged t bytes steps told is sends = λ plan before after.
      let there = sends plan before after in (
        right_clear judged (subst (IsJudgement Asked (site_fields_of s.site) s.clear packet) is told) plan before after,
        there.0,
        there.1,
      )

  pub allowed_of : (result : Result Judged ClearFault) (judged : Judged) (from to : ℕ) (bytes : List ℕ) →
      IsJudgement Asked (site_fields_of s.site) s.clear packet result → result ≡ Ok judged →
      IsOfSent (head_sends s packet) from to bytes →
      IsAllowed (head_does s packet) (head_refuses s (Some packet)) from to bytes
  allowed_of result judged from to bytes told is (steps, few, (t, sends)) =
      (steps, few, inl (t, does_of result judged t bytes steps told is sends))

-- the same of the end, of which this is judged
abbrev pub IsEndJudged : Head → Option ClearFault → Type 0
IsEndJudged s found = (before : List (List ℕ)) → IsKept before s.clear →
    found ≡ end_refusal (site_fields_of s.site) before

-- what is no fault is none
pub none_found : (judged : Option ClearFault) → ((fault : ClearFault) → judged ≡ Some fault → ⊥) → judged ≡ None
none_found None apart = refl
none_found (Some fault) apart = absurd (apart fault refl)

module _ (s : Head) (judged : Option ClearFault) (told : IsEndJudged s judged) where
  end_is : (found : Option ClearFault) → judged ≡ found → (plan : Plan) (before : List (List ℕ)) →
      IsHeadEndAfter plan before s → end_refusal plan.site before ≡ found
  end_is found is plan before after =
      subst (λ (site : SiteFields). end_refusal site before ≡ found) (site_is plan before s after)
      (sym (told before after.clear_is) ∙ is)

  pub ends_of : (t : Head) (bytes : List ℕ) (steps : ℕ) → judged ≡ None → head_closes s t bytes steps →
      head_ends s t bytes steps
  ends_of t bytes steps is closes = (end_is None is, closes)

  pub allowed_end : (from to : ℕ) (bytes : List ℕ) → judged ≡ None → IsOfSent (head_closes s) from to bytes →
      IsAllowed (head_ends s) (head_refuses s None) from to bytes
  allowed_end from to bytes is (steps, few, (t, closes)) = (steps, few, inl (t, ends_of t bytes steps is closes))

  pub refuses_end : (found : ClearFault) (fault : HeadFault) → judged ≡ Some found → Clear found ≡ fault →
      RefusesClearPacket s None fault []
  refuses_end found fault is same = record {
    nothing = refl;
    cause = inr (λ plan before after. subst (IsDue plan before None) same (end_is (Some found) is plan before after));
  }

  pub wants_end : (fault : HeadFault) → judged ≡ None → s.clear.count ≡ 0 → NoMemory ≡ fault →
      RefusesClearPacket s None fault []
  wants_end fault is none same = record {
    nothing = refl;
    cause = inr (λ plan before after. subst (IsDue plan before None) same
        (end_is None is plan before after, none_long before (sym after.clear_is.number ∙ none)));
  }
