-- Good words and files of layers mean work.
use Rattle.std.proofs.Common.{◌≡◌, ℕ, ◌≤◌, ◌^◌, ◌&&◌, nat_le, true, cond, List, Ok, Err, ap, ◌∙◌, lt-ltb}
use Rattle.std.proofs.lemmas.Bool.{le-leb}
use Rattle.sd_lsd.specs.Fields.{layer_card_of, layer_bytes}
use Rattle.sd_command_base.specs.declared.status.Status.TheVariants.{BadWord}
use Rattle.sd_command_base.specs.Spec.{Readings, of_result, value, ◌>>=◌}
use Rattle.sd_command_base.specs.Work.{Uncounted}
use Rattle.sd_command_base.proofs.Follow.{then_is}
use Rattle.sd_command_base.specs.Files.{site_in, book_in}
use Rattle.sd_command_base.specs.Made.{making}
use Rattle.sd_command_line.specs.Words.{LayeredOf, LcardOf}
use Rattle.sd_run_books.specs.Layered.{layers, layers_of_file, told_layers, layering}
use Rattle.sd_run_books.specs.Lcard.{told_leaf, told_width, carding}
use Rattle.sd_law_run.specs.Good.{IsGoodLayered, IsGoodLcard}
use Rattle.sd_run.specs.Meaning.{meaning}
use Rattle.sd_law_run.proofs.Goodness.{site_good, site_low, book_good, ordered}

-- a width from 1 to the height passes
width_good : (d n : ℕ) → 1 ≤ n → n ≤ d → (nat_le 1 n && nat_le n d) ≡ true
width_good d n some within = ap (λ b. b && nat_le n d) (le-leb 1 n some) ∙ le-leb n d within

-- the useful sets of each period are printed
pub layered_good : (words : List (List ℕ)) (given : Readings) (good : IsGoodLayered words given) →
    (meaning words given).result ≡ Ok (layering good.fields.height good.width.value good.commands)
layered_good words given good =
    let d = good.fields.height in
    let width = good.width in
    ordered words given (LayeredOf good.site good.book width) good.order
    ∙ then_is (layers_of_file good.site.number width (given good.site)) (layers d width.value)
    (λ layers. book_in given layers.height good.book
    >>= λ commands. value (layering layers.height layers.width commands))
    (then_is (site_in given good.site) good.fields (λ fields. of_result (told_layers fields.height width))
    (site_good given good.site good.fields good.good_site)
    ∙ ap (λ b. cond b (Ok (layers d width.value)) (Err (BadWord width.word)))
    (width_good d width.value good.some good.within))
    ∙ then_is (book_in given d good.book) good.commands (λ commands. value (layering d width.value commands))
    (book_good given d good.book good.commands (site_low (given good.site) good.fields good.good_site) good.good_book)

-- the layer card of the leaf is made
pub lcard_good : (words : List (List ℕ)) (given : Readings) (good : IsGoodLcard words given) →
    (meaning words given).result ≡ Ok (making Uncounted good.out (layer_bytes
    (layer_card_of good.fields.master good.fields.ca good.fields.height good.width.value good.leaf.value)))
lcard_good words given good =
    let f = good.fields in
    let leaf = good.leaf in
    let width = good.width in
    ordered words given (LcardOf good.site leaf width good.out) good.order
    ∙ then_is (site_in given good.site) f (λ fields. carding fields leaf width good.out)
    (site_good given good.site f good.good_site)
    ∙ then_is (of_result (told_leaf f.height leaf)) leaf.value
    (λ u. of_result (told_width f.height width)
    >>= λ w. value (making Uncounted good.out (layer_bytes (layer_card_of f.master f.ca f.height w u))))
    (ap (λ b. cond b (Ok leaf.value) (Err (BadWord leaf.word))) (lt-ltb leaf.value (2 ^ f.height) good.of_tree))
    ∙ then_is (of_result (told_width f.height width)) width.value
    (λ w. value (making Uncounted good.out (layer_bytes (layer_card_of f.master f.ca f.height w leaf.value))))
    (ap (λ b. cond b (Ok width.value) (Err (BadWord width.word)))
    (width_good f.height width.value good.some good.within))
