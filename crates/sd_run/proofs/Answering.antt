-- What the words of a process come to.
use Rattle.std.proofs.Common.{◌≡◌, ℕ, List, inl, subst}
use Rattle.sd_command_base.specs.declared.status.Status.{Status}
use Rattle.sd_command_line.specs.Spelled.{spelled}
use Rattle.sd_run.specs.Answers.{IsAnswer, IsAnswerTo}

-- an answer to words that are spelled out is an answer
pub answered : (given words : List (List ℕ)) (status : Status) → words ≡ spelled given → IsAnswerTo words status →
    IsAnswer status
answered given words status is h = inl (given, subst (λ (w : List (List ℕ)). IsAnswerTo w status) is h)
