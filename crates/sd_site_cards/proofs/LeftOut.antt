-- The fault of the first bad line after the eighth.
use Rattle.std.proofs.Common.{◌≡◌, ℕ, List, Ok, Err, refl}
use Rattle.sd_site_cards.specs.declared.site_fault.SiteFault.{SiteFault}
use Rattle.sd_site_cards.specs.Forms.{messages_line, first_word_line, last_word_line, first_period_line}
use Rattle.sd_site_cards.specs.Text.{optional_at, optional_on}

pub first_word_bad : (lines lines10 : List (List ℕ)) (messages : ℕ) (fault : SiteFault)
    → optional_at 9 messages_line 1 lines ≡ Ok (messages, lines10)
    → optional_at 10 first_word_line 0 lines10 ≡ Err fault → optional_on lines ≡ Err fault
unfolding optional_on
first_word_bad lines lines10 messages fault good bad = rw good (rw bad refl)

pub last_word_bad : (lines lines10 lines11 : List (List ℕ)) (messages first_word : ℕ) (fault : SiteFault)
    → optional_at 9 messages_line 1 lines ≡ Ok (messages, lines10)
    → optional_at 10 first_word_line 0 lines10 ≡ Ok (first_word, lines11)
    → optional_at 11 last_word_line last_word_line.high lines11 ≡ Err fault → optional_on lines ≡ Err fault
unfolding optional_on
last_word_bad lines lines10 lines11 messages first_word fault good9 good10 bad = rw good9 (rw good10 (rw bad refl))

pub first_period_bad : (lines lines10 lines11 lines12 : List (List ℕ)) (messages first_word last_word : ℕ)
    (fault : SiteFault) → optional_at 9 messages_line 1 lines ≡ Ok (messages, lines10)
    → optional_at 10 first_word_line 0 lines10 ≡ Ok (first_word, lines11)
    → optional_at 11 last_word_line last_word_line.high lines11 ≡ Ok (last_word, lines12)
    → optional_at 12 first_period_line 0 lines12 ≡ Err fault → optional_on lines ≡ Err fault
unfolding optional_on
first_period_bad lines lines10 lines11 lines12 messages first_word last_word fault good9 good10 good11 bad =
    rw good9 (rw good10 (rw good11 (rw bad refl)))
