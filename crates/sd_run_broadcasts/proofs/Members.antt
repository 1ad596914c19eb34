-- The line of a report, member by member.
use Rattle.std.proofs.Common.{◌≡◌, ◌+◌, ◌-◌, ◌∙◌, ℕ, List, [], ◌∷◌, ◌++◌, length, refl, sym, ap}
use Rattle.std.proofs.Common.{subst, arith}
use Rattle.std.proofs.Common.{append_assoc, length-append}
use Rattle.std.specs.Prelude.{slice_index, codes, decimal}
use Rattle.json.specs.Token.{Token, key as key_token, number as number_token}
use Rattle.json.specs.Print.{print}
use Rattle.json.specs.Tree.{json_tokens, members_tokens}
use Rattle.serde_json.specs.Data.{Data, Members}
use Rattle.serde_json.specs.Written.{compact_text, members_outline, outline}
use Rattle.serde_json.proofs.Texts.{print-outline}
use Rattle.sd_run_broadcasts.specs.Members.{text_member}
use Rattle.sd_run_broadcasts.specs.MemberTokens.{text_tokens, EndsLine}

-- the tokens of a value are printed as its compact text
pub printed : (value : Data) → print (json_tokens (outline value)) ≡ compact_text value
printed value = print-outline value

-- a text that may be left out
pub text_first : (name text : List ℕ) (more : Members) →
    members_tokens (members_outline (text_member name text more))
    ≡ text_tokens name text ++ members_tokens (members_outline more)
text_first name [] more = refl
text_first name (byte ∷ bytes) more = refl

-- the last byte, where it is a line feed
last_is : (front : List ℕ) → slice_index (front ++ 10 ∷ []) (length front) ≡ 10
last_is [] = refl
last_is (byte ∷ front) = last_is front

pub feeds : (front line : List ℕ) → front ++ 10 ∷ [] ≡ line → EndsLine line
feeds front line is = λ some.
    let long : length line ≡ length front + 1 = ap length (sym is) ∙ length-append front (10 ∷ []) in
    let at : length line - 1 ≡ length front = omega (arith, long) in
    rw at (subst (λ (xs : List ℕ). slice_index xs (length front) ≡ 10) is (last_is front))

-- bytes that end with a line feed, and others in front of them
pub record Fed (line : List ℕ) : Type 0 where
  pub front : List ℕ
  pub is : front ++ 10 ∷ [] ≡ line

pub line_feed : Fed (codes "\n")
line_feed = record { front = []; is = refl }

pub behind : {line : List ℕ} (xs : List ℕ) → Fed line → Fed (xs ++ line)
behind xs fed =
    record { front = xs ++ fed.front; is = append_assoc xs fed.front (10 ∷ []) ∙ ap (λ (l : List ℕ). xs ++ l) fed.is }

pub fed : {line : List ℕ} → Fed line → EndsLine line
fed {line} h = feeds h.front line h.is

-- a number after others
abbrev pub num_tokens : List ℕ → ℕ → List Token
num_tokens name n = key_token name ∷ number_token (decimal n) ∷ []
