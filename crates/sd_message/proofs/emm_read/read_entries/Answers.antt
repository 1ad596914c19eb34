use Rattle.std.proofs.Common.{◌≡◌, ℕ, ◌-◌, ◌++◌, refl, ap, ◌∙◌, arith}
use Rattle.std.specs.Prelude.{replicate}
use Rattle.std.proofs.lemmas.Bool.{false≢true}
use Rattle.sd_message.proofs.Items.{none_read, one_read, all_read, none_good, one_good, not_good}
use Rattle.sd_message.specs.EmmForm.{IsSetBeside, no_entry}
use Rattle.sd_message.specs.EmmFields.{emm_entry_in, entries_in}
use Rattle.sd_message.specs.declared.emm.Entry.{Entry}
use Rattle.sd_message.proofs.emm_read.read_entries.Goals as goal

pub loop-k-init : goal.loop-k-init
loop-k-init c = record {
  value = c.requires.none ∙ none_read emm_entry_in 40 3 no_entry c.args.bytes.now;
  sets = none_good (λ (e : Entry). IsSetBeside c.args.h c.args.sets e.name) emm_entry_in 40 c.args.bytes.now;
}

pub returns-in-None-clause-sets : goal.returns-in-None-clause-sets
returns-in-None-clause-sets c =
    let no =
    not_good (λ (e : Entry). IsSetBeside c.args.h c.args.sets e.name) emm_entry_in 40 c.loop-k.k c.args.count
    c.args.bytes.now c.loop-k-test.true
    (λ set. false≢true (c.in-None.ensures.set.1 set)) in
    (λ some. absurd (false≢true some), λ all. absurd (no all))

pub loop-k-preserved : goal.loop-k-preserved
loop-k-preserved c = record {
  value = one_read emm_entry_in 40 3 no_entry c.args.bytes.now c.loop-k.entries c.loop-k.k c.in-Some.entry
      (omega arith) c.loop-k.invariant.value c.in-Some.ensures.value;
  sets = one_good (λ (e : Entry). IsSetBeside c.args.h c.args.sets e.name) emm_entry_in 40 c.loop-k.k c.args.bytes.now
      c.loop-k.invariant.sets
      (c.in-Some.ensures.set.0 refl);
}

pub returns-clause-value : goal.returns-clause-value
returns-clause-value c _ =
    let end : c.loop-k.k ≡ c.args.count = omega arith in
    c.loop-k.invariant.value
    ∙ (ap (λ (n : ℕ). entries_in n c.args.bytes.now ++ replicate (3 - n) no_entry) end
    ∙ all_read emm_entry_in 40 3 no_entry
    c.args.bytes.now c.args.count)
