-- The sites of a chain, one after the other.
use Rattle.std.proofs.Common.{arith, ◌≡◌, ℕ, suc, zero, ◌+◌, ◌<◌, ◌≤◌, List, [], ◌∷◌, ◌++◌, length, get_or, refl, ap}
use Rattle.std.proofs.Common.{◌∙◌, Some, subst}
use Rattle.std.specs.Prelude.{slice_get}
use Rattle.std.proofs.lemmas.Option.{slice_get-get_or}
use Rattle.sd_law_chain.specs.Chain.{AreTaken, Call, IsChain, IsTaken, Link, Twin, chain, link_at, made_by}

one_call : (a b : Call) → Some a ≡ Some b → a ≡ b
one_call a b h = cc

head_is : (d link : Link) (calls : List Call) → get_or (chain link calls) 0 d ≡ link
head_is d link [] = refl
head_is d link (call ∷ calls) = refl

next_is : (d link : Link) (calls : List Call) (n : ℕ) (call : Call) → slice_get calls n ≡ Some call →
    get_or (chain link calls) (suc n) d ≡ made_by (get_or (chain link calls) n d) call
next_is d link [] n call h = absurd cc
next_is d link (first ∷ calls) zero call h =
    head_is d (made_by link first) calls ∙ ap (made_by link) (one_call first call h)
next_is d link (first ∷ calls) (suc n) call h = next_is d (made_by link first) calls n call h

taken_is : (d link : Link) (calls : List Call) (n : ℕ) (call : Call) → AreTaken link calls →
    slice_get calls n ≡ Some call → IsTaken (get_or (chain link calls) n d) call
taken_is d link [] n call taken h = absurd cc
taken_is d link (first ∷ calls) zero call taken h = subst (IsTaken link) (one_call first call h) taken.0
taken_is d link (first ∷ calls) (suc n) call taken h = taken_is d (made_by link first) calls n call taken.1 h

-- the first site
pub first_link : (root : Link) (calls : List Call) → link_at root calls 0 ≡ root
unfolding link_at
first_link root calls = head_is root root calls

-- call n makes the site after that of number n
pub next_link : (root : Link) (calls : List Call) (n : ℕ) (call : Call) → slice_get calls n ≡ Some call →
    link_at root calls (suc n) ≡ made_by (link_at root calls n) call
unfolding link_at
next_link root calls n call h = next_is root root calls n call h

-- and is taken with it
pub call_taken : (root : Link) (calls : List Call) (n : ℕ) (call : Call) → IsChain root calls →
    slice_get calls n ≡ Some call → IsTaken (link_at root calls n) call
unfolding link_at
call_taken root calls n call is h = taken_is root root calls n call is.taken h

-- a call of a number below that of calls
pub some_call : (calls : List Call) (n : ℕ) → n < length calls → (call : Call) × (slice_get calls n ≡ Some call)
some_call calls n h = (get_or calls n (Twin 0), slice_get-get_or calls n (Twin 0) h)

-- with a call more at the end the sites before stay
still : (d link : Link) (calls : List Call) (call : Call) (i : ℕ) → i ≤ length calls →
    get_or (chain link (calls ++ call ∷ [])) i d ≡ get_or (chain link calls) i d
still d link [] call zero low = refl
still d link [] call (suc i) low = absurd (omega (arith, low))
still d link (first ∷ calls) call zero low = refl
still d link (first ∷ calls) call (suc i) low = still d (made_by link first) calls call i (omega (arith, low))

pub links_stay : (root : Link) (calls : List Call) (call : Call) (i : ℕ) → i ≤ length calls →
    link_at root (calls ++ call ∷ []) i ≡ link_at root calls i
unfolding link_at
links_stay root calls call i low = still root root calls call i low

-- the call at the end
last_call : (calls : List Call) (call : Call) → slice_get (calls ++ call ∷ []) (length calls) ≡ Some call
last_call [] call = refl
last_call (first ∷ calls) call = last_call calls call

-- it makes the site at the end
pub link_made : (root : Link) (calls : List Call) (call : Call) →
    link_at root (calls ++ call ∷ []) (length calls + 1) ≡ made_by (link_at root calls (length calls)) call
link_made root calls call =
    let more : length calls + 1 ≡ suc (length calls) = omega arith in
    ap (link_at root (calls ++ call ∷ [])) more
    ∙ (next_link root (calls ++ call ∷ []) (length calls) call (last_call calls call)
    ∙ ap (λ (l : Link). made_by l call) (links_stay root calls call (length calls) (omega arith)))

taken_after : (d link : Link) (calls : List Call) (call : Call) → AreTaken link calls →
    IsTaken (get_or (chain link calls) (length calls) d) call → AreTaken link (calls ++ call ∷ [])
taken_after d link [] call taken last = (last, tt)
taken_after d link (first ∷ calls) call taken last =
    (taken.0, taken_after d (made_by link first) calls call taken.1 last)

-- and is taken after the others, if it is taken with the last site
pub chain_more : (root : Link) (calls : List Call) (call : Call) → IsChain root calls →
    IsTaken (link_at root calls (length calls)) call → IsChain root (calls ++ call ∷ [])
unfolding link_at
chain_more root calls call is taken = record {
  first = is.first;
  taken = taken_after root root calls call is.taken taken;
}
