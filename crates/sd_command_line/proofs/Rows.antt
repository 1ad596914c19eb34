-- Arguments that are read one after another.
use Rattle.std.proofs.Common.{◌≡◌, ℕ, suc, zero, ◌+◌, List, [], ◌∷◌, ◌++◌, Option, Some, None, Result, Ok, Err}
use Rattle.std.proofs.Common.{slice_get, refl, sym, ap, ◌∙◌, arith}
use Rattle.std.proofs.Common.{option_map, length, map, drop, get_or, string_bytes, String, Global, Bor, ◌<◌, ◌≢◌, ◌||◌}
use Rattle.std.proofs.Common.{Bool, true, false, drop-cons, bytes_eq, ◌≤◌, ◌-◌, append_assoc, length-append}
use Rattle.std.specs.List.{list_any}
use Rattle.std.proofs.lemmas.List.{map-append}
use Rattle.sd_command_line.specs.declared.operand.Operand.{Operand}
use Rattle.sd_command_line.specs.declared.operand.Kind.{Kind}
use Rattle.sd_command_line.specs.declared.operand.Kind.TheVariants as kind
use Rattle.sd_command_line.specs.Operands.{is_file, operand_kind}
use Rattle.sd_command_base.specs.declared.status.Status.{Status}
use Rattle.sd_command_line.specs.declared.argument.Argument.{Argument}
use Rattle.sd_command_line.specs.Words as words
use Rattle.sd_command_line.specs.Words.{before, argument_of, arguments_from, file_texts, input_texts, out_text}
use Rattle.sd_command_line.specs.Words.{or_output, with_input_text}
use Rattle.sd_command_line.specs.Orders.{argument_said, arguments_said}

-- the argument at a place, as it is said
pub said_at : (arguments : List Argument) (place i : ℕ) →
    slice_get (arguments_said place arguments) i ≡ option_map (argument_said (place + i)) (slice_get arguments i)
said_at [] place i = refl
said_at (argument ∷ arguments) place zero = ap (λ (p : ℕ). Some (argument_said p argument)) (omega arith)
said_at (argument ∷ arguments) place (suc i) =
    said_at arguments (place + 1) i
    ∙ ap (λ (p : ℕ). option_map (argument_said p) (slice_get arguments i)) (omega arith)

there : (arguments : List Argument) (i : ℕ) (argument : Argument) → i < length arguments →
    argument ≡ get_or arguments i argument → slice_get arguments i ≡ Some argument
there [] i argument h is = absurd (omega (arith, h))
there (first ∷ arguments) zero argument h is = ap Some (sym is)
there (first ∷ arguments) (suc i) argument h is = there arguments i argument (omega (arith, h)) is

gone : (arguments : List Argument) (i : ℕ) → length arguments ≤ i → slice_get arguments i ≡ None
gone [] i h = refl
gone (first ∷ arguments) zero h = absurd (omega (arith, h))
gone (first ∷ arguments) (suc i) h = gone arguments i (omega (arith, h))

from_one : (arguments : List Argument) (place : ℕ) → 0 < place → slice_get (arguments_said 1 arguments) (place - 1)
    ≡ option_map (argument_said place) (slice_get arguments (place - 1))
from_one arguments place h =
    let same : 1 + (place - 1) ≡ place = omega (arith, h) in
    said_at arguments 1 (place - 1)
    ∙ ap (λ (p : ℕ). option_map (argument_said p) (slice_get arguments (place - 1))) same

-- the argument that is there, and none where there is none
pub said_there : (arguments list : List Argument) (place at : ℕ) (argument : Argument) → list ≡ arguments →
    at ≡ place → 0 < place → at - 1 < length list → argument ≡ get_or list (at - 1) argument →
    Some (argument_said place argument) ≡ slice_get (arguments_said 1 arguments) (place - 1)
said_there arguments list place at argument same is h within found =
    let within = rw (same, is) at within in
    let found = rw (same, is) at found in
    sym
    (from_one arguments place h
    ∙ ap (option_map (argument_said place)) (there arguments (place - 1) argument within found))

pub said_gone : (arguments list : List Argument) (place at : ℕ) → list ≡ arguments → at ≡ place → 0 < place →
    length list ≤ at - 1 → None ≡ slice_get (arguments_said 1 arguments) (place - 1)
said_gone arguments list place at same is h past =
    let past = rw (same, is) at past in
    sym (from_one arguments place h ∙ ap (option_map (argument_said place)) (gone arguments (place - 1) past))

-- one argument more at the end
said_more : (arguments : List Argument) (argument : Argument) (place : ℕ) →
    arguments_said place (arguments ++ argument ∷ [])
    ≡ arguments_said place arguments ++ argument_said (place + length arguments) argument ∷ []
said_more [] argument place = ap (λ (p : ℕ). argument_said p argument ∷ []) (omega arith)
said_more (first ∷ arguments) argument place =
    ap (λ (rest : List words.Argument). argument_said place first ∷ rest)
    (said_more arguments argument (place + 1)
    ∙ ap (λ (p : ℕ). arguments_said (place + 1) arguments ++ argument_said p argument ∷ []) (omega arith))

-- arguments that were read, before those that are left
abbrev pub after_these : List words.Argument → Result (List words.Argument) Status → Result (List words.Argument) Status
after_these arguments (Ok rest) = Ok (arguments ++ rest)
after_these arguments (Err status) = Err status

-- OUT is not the first of them
other_kind : (k : Kind) (text : List ℕ) (later : Option (List ℕ)) → k ≢ kind.Output → or_output k text later ≡ later
other_kind kind.Input text later other = refl
other_kind kind.Output text later other = absurd (other refl)
other_kind (kind.Number most) text later other = refl
other_kind (kind.Count most) text later other = refl

-- what is left begins with the item at the place
pub one_left : {A : Type 0} (xs : List A) (i : ℕ) (d : A) → i < length xs → drop i xs ≡ get_or xs i d ∷ drop (i + 1) xs
one_left {A} xs i d h =
    let next : suc i ≡ i + 1 = omega arith in
    drop-cons xs i d h ∙ ap (λ (k : ℕ). get_or xs i d ∷ drop k xs) next

first_left : (texts : List (String Global)) (i : ℕ) (e : String Global) → i < length texts →
    map string_bytes (drop i texts) ≡ string_bytes (get_or texts i e) ∷ map string_bytes (drop (i + 1) texts)
first_left texts i e h = ap (map string_bytes) (one_left texts i e h)

pub out_later : (operands : List Operand) (texts : List (String Global)) (i : ℕ) (d : Operand) →
    i < length operands → length operands ≡ length texts → operand_kind (get_or operands i d) ≢ kind.Output →
    out_text (drop (i + 1) operands) (map string_bytes (drop (i + 1) texts))
    ≡ out_text (drop i operands) (map string_bytes (drop i texts))
out_later operands [] i d h same other = absurd (omega (arith, h, same))
out_later operands (e ∷ rest) i d h same other =
    let texts : List (String Global) = e ∷ rest in
    sym
    (rw (one_left operands i d h, first_left texts i e (omega (arith, h, same)))
    (other_kind (operand_kind (get_or operands i d)) (string_bytes (get_or texts i e))
    (out_text (drop (i + 1) operands) (map string_bytes (drop (i + 1) texts))) other))

-- one item more at the end
pub one_longer : {A : Type 0} (xs : List A) (x : A) (n : ℕ) → length xs ≤ n → length (xs ++ x ∷ []) ≤ n + 1
one_longer xs x n h = let count = length-append xs (x ∷ []) in omega (arith, h, count)

-- one file more was found
pub file_found : (operands : List Operand) (texts : List (String Global)) (files : List (Bor (List ℕ)))
    (file : Bor (List ℕ)) (i : ℕ) (d : Operand) (e : String Global) → i < length operands →
    length operands ≡ length texts → true ≡ is_file (operand_kind (get_or operands i d)) →
    file.now ≡ string_bytes (get_or texts i e) →
    map (λ (text : Bor (List ℕ)). text.now) (files ++ file ∷ [])
    ++ file_texts (drop (i + 1) operands) (map string_bytes (drop (i + 1) texts))
    ≡ map (λ (text : Bor (List ℕ)). text.now) files
    ++ file_texts (drop i operands) (map string_bytes (drop i texts))
file_found operands texts files file i d e h same is text =
    let now : Bor (List ℕ) → List ℕ = λ text. text.now in
    let rest = file_texts (drop (i + 1) operands) (map string_bytes (drop (i + 1) texts)) in
    let left : file_texts (drop i operands) (map string_bytes (drop i texts)) ≡ file.now ∷ rest =
    rw (one_left operands i d h, first_left texts i e (omega (arith, h, same)), sym is, sym text) refl in
    ap (λ (front : List (List ℕ)). front ++ rest) (map-append now files (file ∷ []))
    ∙ append_assoc (map now files) (file.now ∷ []) rest
    ∙ ap (λ (back : List (List ℕ)). map now files ++ back) (sym left)

-- the first of what is left is no file
pub no_file : (operands : List Operand) (texts : List (String Global)) (i : ℕ) (d : Operand) →
    i < length operands → length operands ≡ length texts → false ≡ is_file (operand_kind (get_or operands i d)) →
    file_texts (drop (i + 1) operands) (map string_bytes (drop (i + 1) texts))
    ≡ file_texts (drop i operands) (map string_bytes (drop i texts))
no_file operands [] i d h same is = absurd (omega (arith, h, same))
no_file operands (e ∷ rest) i d h same is =
    let texts : List (String Global) = e ∷ rest in
    sym (rw (one_left operands i d h, first_left texts i e (omega (arith, h, same)), sym is) refl)

either : (p q : Bool) → p || q ≡ (p || false) || q
either true q = refl
either false q = refl

-- some text has this name, the first or one of the others
some_input : (k : Kind) (text name : List ℕ) (texts : List (List ℕ)) →
    list_any (λ t. bytes_eq t name) (with_input_text k text texts)
    ≡ list_any (λ t. bytes_eq t name) (with_input_text k text []) || list_any (λ t. bytes_eq t name) texts
some_input kind.Input text name texts = either (bytes_eq text name) (list_any (λ t. bytes_eq t name) texts)
some_input kind.Output text name texts = refl
some_input (kind.Number most) text name texts = refl
some_input (kind.Count most) text name texts = refl

-- the first of them is no file that is read and has this name
pub input_later : (operands : List Operand) (texts : List (String Global)) (text name : List ℕ) (i : ℕ) (d : Operand)
    (e : String Global) → i < length operands → length operands ≡ length texts →
    text ≡ string_bytes (get_or texts i e) →
    false ≡ list_any (λ t. bytes_eq t name) (with_input_text (operand_kind (get_or operands i d)) text []) →
    list_any (λ t. bytes_eq t name) (input_texts (drop (i + 1) operands) (map string_bytes (drop (i + 1) texts)))
    ≡ list_any (λ t. bytes_eq t name) (input_texts (drop i operands) (map string_bytes (drop i texts)))
input_later operands texts text name i d e h same is none =
    let later = input_texts (drop (i + 1) operands) (map string_bytes (drop (i + 1) texts)) in
    sym
    (rw (one_left operands i d h, first_left texts i e (omega (arith, h, same)), sym is)
    (some_input (operand_kind (get_or operands i d)) text name later
    ∙ ap (λ (b : Bool). b || list_any (λ t. bytes_eq t name) later) (sym none)))

after_before : (arguments : List words.Argument) (argument : words.Argument)
    (rest : Result (List words.Argument) Status) →
    after_these (arguments ++ argument ∷ []) rest ≡ after_these arguments (before (Ok argument) rest)
after_before arguments argument (Ok rest) = ap Ok (append_assoc arguments (argument ∷ []) rest)
after_before arguments argument (Err status) = refl

-- one argument more was read
pub read_more : (operands : List Operand) (texts : List (String Global)) (arguments : List Argument)
    (argument : Argument) (i : ℕ) (d : Operand) (e : String Global) → i < length operands →
    length operands ≡ length texts → length arguments ≡ i →
    argument_of (i + 1) (operand_kind (get_or operands i d)) (string_bytes (get_or texts i e))
    ≡ Ok (argument_said (i + 1) argument) →
    after_these (arguments_said 1 (arguments ++ argument ∷ []))
    (arguments_from (i + 1 + 1) (drop (i + 1) operands) (map string_bytes (drop (i + 1) texts)))
    ≡ after_these (arguments_said 1 arguments)
    (arguments_from (i + 1) (drop i operands) (map string_bytes (drop i texts)))
read_more operands texts arguments argument i d e h same count read =
    let rest = arguments_from (i + 1 + 1) (drop (i + 1) operands) (map string_bytes (drop (i + 1) texts)) in
    let place : 1 + length arguments ≡ i + 1 = omega (arith, count) in
    ap (λ (said : List words.Argument). after_these said rest)
    (said_more arguments argument 1
    ∙ ap (λ (p : ℕ). arguments_said 1 arguments ++ argument_said p argument ∷ []) place)
    ∙ after_before (arguments_said 1 arguments) (argument_said (i + 1) argument) rest
    ∙ rw (one_left operands i d h, first_left texts i e (omega (arith, h, same)))
    (ap (λ (first : Result words.Argument Status). after_these (arguments_said 1 arguments) (before first rest))
    (sym read))
