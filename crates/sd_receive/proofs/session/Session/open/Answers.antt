use Rattle.std.proofs.Common.{◌≡◌, ◌∙◌, subst, sym, ap, ◌∷◌, List, ℕ, Option, [], refl}
use Rattle.std.specs.Prelude.{Some, None, option_map, Result}
use Rattle.sd_message.specs.EcmParts.{message_of}
use Rattle.sd_message.specs.declared.stream_fault.StreamFault.{StreamFault}
use Rattle.sd_spec.specs.Heard.{Controls}
use Rattle.sd_spec.specs.Offered.{word_fault}
use Rattle.sd_receive.specs.PeriodKeys.{IsEntitled, key_kept}
use Rattle.sd_receive.specs.Session.{IsWordTold}
use Rattle.sd_receive.specs.declared.emm.PeriodKeys.{PeriodKeys}
use Rattle.sd_receive.specs.PacketBuffer.{after_message}
use Rattle.sd_receive.proofs.Messages.{in_turn, key_ahead, renewed}
use Rattle.sd_receive.proofs.session.Session.open.Goals as goal

pub message-requires : goal.message-requires
message-requires c =
    let l = c.requires.live in in_turn l.0 l.1 l.2 c.args.head.now c.args.self.now l.3

pub returns-in-Ok-clause-value : goal.returns-in-Ok-clause-value
returns-in-Ok-clause-value c = λ n card past part done told.
    let s = c.args.self.now in
    let head = c.args.head.now in
    let message = message_of head s.assembler.coming.places.items in
    let keys = c.message.ensures card past part message done.follows.keys done.assembler.complete refl in
    let kept = key_kept s.keys head.period in
    let key = key_ahead card past part head s done in
    let word = subst (λ (r : Result (Option (List ℕ)) StreamFault). IsWordTold n head kept r) c.in-Ok.is told in (
      subst (λ (k : Option (List ℕ)). word_fault n message k ≡ None) key word.1,
      renewed card past part head s c.renew.new.self kept done
          (subst (λ (e : PeriodKeys). IsEntitled card (Controls part ∷ past) e) (sym c.renew.ensures.same.0) keys)
          (c.renew.ensures.assembler past part done.assembler) key
          (c.renew.ensures.buffer ∙ ap (λ (w : Option (List ℕ)). option_map
          (λ (k : List ℕ). after_message message k []) w) word.0)
          c.renew.ensures.closed,
    )

pub returns-in-Err-clause-value : goal.returns-in-Err-clause-value
returns-in-Err-clause-value c = λ n card past part done told.
    let s = c.args.self.now in
    let head = c.args.head.now in
    let message = message_of head s.assembler.coming.places.items in
    let wrong = subst (λ (r : Result (Option (List ℕ)) StreamFault).
    IsWordTold n head (key_kept s.keys head.period) r) c.in-Err.is told in
    subst (λ (k : Option (List ℕ)). word_fault n message k ≡ Some c.in-Err.fault) (key_ahead card past part head s done)
    wrong
