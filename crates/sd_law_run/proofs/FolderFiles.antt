-- A file more in a folder with a chain.
use Rattle.std.proofs.Common.{arith, ◌≡◌, ◌≢◌, inl, inr, ℕ, ◌+◌, List, [], ◌∷◌}
use Rattle.std.proofs.Common.{◌++◌}
use Rattle.std.proofs.Common.{length, Option, Some, sym, ap, subst, ◌∙◌}
use Rattle.std.proofs.lemmas.Bool.{cases_lt}
use Rattle.std.proofs.lemmas.List.{length-append}
use Rattle.std.specs.FinMap.{get, insert}
use Rattle.sd_base.specs.Types.{Bytes, FileName}
use Rattle.sd_ports.specs.Files.{Files}
use Rattle.sd_law_chain.specs.Chain.{Call, IsTaken, Link, link_at, made_by}
use Rattle.sd_law_run.specs.Folders.{last_number_in, site_name_at, HasName, text_of_link, HoldsChain, IsFolder}
use Rattle.sd_law_run.proofs.Shelf.{made_there, others_stay}
use Rattle.sd_law_run.proofs.FolderNames.{names_differ, named_first}
use Rattle.sd_law_chain.proofs.Links.{links_stay, link_made, chain_more}

-- two names of a folder are one if their numbers are
pub apart : {files : Files} {name : FileName} {root : Link} {calls : List Call} {above : Option Bytes} →
    HoldsChain files name root calls above → (i j : ℕ) → HasName name i → HasName name j → i ≢ j →
    site_name_at name i ≢ site_name_at name j
apart {files} {name} holds i j a b other same =
    other (names_differ name (last_number_in name) i j holds.numbered (omega (arith, a)) (omega (arith, b)) same)

-- the first name
pub first_name : {files : Files} {name : FileName} {root : Link} {calls : List Call} {above : Option Bytes} →
    HoldsChain files name root calls above → name ≡ site_name_at name 0
first_name {files} {name} holds = named_first name (last_number_in name) holds.numbered (omega (arith, holds.named))

-- a file of another name
pub others_hold : (files : Files) (name : FileName) (root : Link) (calls : List Call) (above : Option Bytes)
    (other : FileName) (bytes : Bytes) → HoldsChain files name root calls above →
    ((i : ℕ) → HasName name i → other ≢ site_name_at name i) →
    HoldsChain (insert files other bytes) name root calls above
others_hold files name root calls above other bytes holds none =
    let stays : (i : ℕ) → HasName name i →
    get (insert files other bytes) (site_name_at name i) ≡ get files (site_name_at name i) =
    λ i low. others_stay files other bytes (site_name_at name i) (λ same. none i low (sym same)) in
    let first = first_name holds in
    record {
      is_chain = holds.is_chain;
      numbered = holds.numbered;
      named = holds.named;
      bytes = holds.bytes;
      there = others_stay files other bytes name (λ same. none 0 (omega (arith, holds.named)) (sym same ∙ first))
          ∙ holds.there;
      first = holds.first;
      made = λ i some low. stays i (omega (arith, holds.named, low)) ∙ holds.made i some low;
      next = λ low. stays (length calls + 1) low ∙ holds.next low;
      free = λ i high low. stays i low ∙ holds.free i high low;
    }

-- the next name has a file
pub next_holds : (files : Files) (name : FileName) (root : Link) (calls : List Call) (above : Option Bytes)
    (bytes : Bytes) → HoldsChain files name root calls above → HasName name (length calls + 1) →
    HoldsChain (insert files (site_name_at name (length calls + 1)) bytes) name root calls (Some bytes)
next_holds files name root calls above bytes holds named =
    let at = site_name_at name (length calls + 1) in
    let stays : (i : ℕ) → HasName name i → i ≢ length calls + 1 →
    get (insert files at bytes) (site_name_at name i) ≡ get files (site_name_at name i) =
    λ i low other. others_stay files at bytes (site_name_at name i) (apart holds i (length calls + 1) low named other)
    in
    let first = first_name holds in
    record {
      is_chain = holds.is_chain;
      numbered = holds.numbered;
      named = holds.named;
      bytes = holds.bytes;
      there = ap (get (insert files at bytes)) first
          ∙ (stays 0 (omega (arith, named)) (λ e. absurd (omega (arith, e)))
          ∙ (ap (get files) (sym first) ∙ holds.there));
      first = holds.first;
      made = λ i some low. stays i (omega (arith, named, low)) (λ e. absurd (omega (arith, e, low)))
          ∙ holds.made i some low;
      next = λ low. made_there files at bytes;
      free = λ i high low. stays i low (λ e. absurd (omega (arith, e, high))) ∙ holds.free i high low;
    }

-- the length of calls with one more
pub one_more : (calls : List Call) (call : Call) → length (calls ++ call ∷ []) ≡ length calls + 1
one_more calls call = length-append calls (call ∷ [])

-- if that is the site that a call makes, the chain is longer
pub longer_holds : (files : Files) (name : FileName) (root : Link) (calls : List Call) (call : Call) →
    HoldsChain files name root calls (Some (text_of_link (made_by (link_at root calls (length calls)) call))) →
    HasName name (length calls + 1) → IsTaken (link_at root calls (length calls)) call →
    IsFolder files name root (calls ++ call ∷ [])
longer_holds files name root calls call holds named taken =
    let size = one_more calls call in
    record {
      is_chain = chain_more root calls call holds.is_chain taken;
      numbered = holds.numbered;
      named = subst (HasName name) (sym size) named;
      bytes = holds.bytes;
      there = holds.there;
      first = holds.first;
      made = λ i some low. elim (cases_lt (length calls) i) [
        | inl last ↦
            let at : i ≡ length calls + 1 = omega (arith, last, low, size) in
            ap (λ (k : ℕ). get files (site_name_at name k)) at ∙ (holds.next named
            ∙ ap (λ (l : Link). Some (text_of_link l)) (sym (ap (link_at root (calls ++ call ∷ [])) at
            ∙ link_made root calls call)))
        | inr before ↦ holds.made i some before
            ∙ ap (λ (l : Link). Some (text_of_link l)) (sym (links_stay root calls call i before))
      ];
      next = λ low. holds.free (length (calls ++ call ∷ []) + 1) (omega (arith, size)) low;
      free = λ i high low. holds.free i (omega (arith, size, high)) low;
    }
