-- The lines of a field.
use Rattle.std.proofs.Common.{arith, ◌≡◌, ℕ, suc, ◌+◌, ◌/◌, ◌^◌, List, ◌++◌, length, sym, ap, subst, ◌∙◌, inl, inr}
use Rattle.std.proofs.Common.{Ok, Err}
use Rattle.std.specs.Prelude.{None, Option}
use Rattle.std.specs.List.{concat}
use Rattle.sd_book.specs.declared.command.Command.{Command}
use Rattle.sd_book.specs.Commands.{last_period}
use Rattle.sd_spec.specs.Sent.{body}
use Rattle.sd_message.specs.declared.clear_fault.ClearFault.{ClearFault}
use Rattle.sd_field.specs.Fields.{FieldValue, IsSentCut, plan_of_field, sends_of, field_clear_packets, written_of}
use Rattle.sd_field.proofs.Fields.{unsent}
use Rattle.sd_command_base.specs.declared.status.Status.{Status}
use Rattle.sd_command_base.specs.Outcome.{IsEnding}
use Rattle.sd_command_base.specs.Printed.{MemoryOutcome}
use Rattle.sd_run_broadcasts.specs.Field.{digest_of, first_line, lines_of_field, field_receiver_line, text_in}
use Rattle.sd_run_broadcasts.specs.Field.{unrefused, wrote_line}
use Rattle.sd_run_broadcasts.specs.FieldPlayed.{PlayOutcome, all_done}

-- the first line
pub first_told : (v : FieldValue) (sends packets period : ℕ) (sent text : List ℕ) (commands : List Command) →
    v.failed ≡ None → sends ≡ sends_of v → (¬ IsSentCut v → sent
    ≡ concat (body (plan_of_field v) (field_clear_packets v))) →
    packets ≡ length sent / 188 → period ≡ last_period commands → commands ≡ (plan_of_field v).commands →
    text ≡ first_line sends packets period → text ≡ lines_of_field v 0
unfolding lines_of_field
first_told v sends packets period sent text commands calm count all size last book is =
    is
    ∙ (ap (λ (k : ℕ). first_line k packets period) count
    ∙ (ap (λ (p : ℕ). first_line (sends_of v) p period) (size ∙ ap (λ (xs : List ℕ). length xs / 188)
    (all (unsent v calm)))
    ∙ ap (first_line (sends_of v) (length (concat (body (plan_of_field v) (field_clear_packets v))) / 188))
    (last ∙ ap last_period book)))

-- the lines so far, and the next
pub next_told : (v : FieldValue) (u : ℕ) (text more wrote digest : List ℕ) → text ≡ lines_of_field v u →
    wrote ≡ written_of u v → digest ≡ digest_of wrote → more ≡ text ++ field_receiver_line u (length wrote / 188)
    digest →
    more ≡ lines_of_field v (u + 1)
unfolding lines_of_field
next_told v u text more wrote digest so_far same known is =
    let next : u + 1 ≡ suc u = omega arith in
    is
    ∙ (ap (λ (xs : List ℕ). xs ++ field_receiver_line u (length wrote / 188) digest) so_far
    ∙ (ap (λ (d : List ℕ). lines_of_field v u ++ field_receiver_line u (length wrote / 188) d) known
    ∙ (ap (λ (bytes : List ℕ). lines_of_field v u ++ wrote_line u bytes) same ∙ ap (lines_of_field v) (sym next))))

-- a field that stopped has no text
pub text_stopped : {X : Type 0} (view : X → List ℕ) (before now : FieldValue) (status : Status) →
    PlayOutcome before now (Err status) → MemoryOutcome view (text_in (all_done before)) (Err status)
unfolding text_in
text_stopped view before now status (inl (fault, refused, told)) = inl (
  ap (λ (r : Option ClearFault). unrefused r (lines_of_field (all_done before) (2 ^ before.site.height))) refused
      ∙ ap (λ (s : Status). Err s) (sym told),
  subst IsEnding (sym told) tt,
)
text_stopped view before now status (inr out) = inr out

-- one whose events are all done has the text of its lines
pub text_told : (before now : FieldValue) (text : List ℕ) → PlayOutcome before now (Ok tt) →
    text ≡ lines_of_field now (2 ^ before.site.height) → text_in (all_done before) ≡ Ok text
unfolding text_in
text_told before now text plays told =
    ap (λ (r : Option ClearFault). unrefused r (lines_of_field (all_done before) (2 ^ before.site.height))) plays.1
    ∙ ap (λ (xs : List ℕ). Ok xs)
    (sym (told ∙ ap (λ (v : FieldValue). lines_of_field v (2 ^ before.site.height)) plays.0))
