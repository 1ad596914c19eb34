-- A site file written line by line.
use Rattle.std.proofs.Common.{◌≡◌, ◌∙◌, ℕ, List, [], ◌++◌}
use Rattle.std.specs.Int.{w16, to_be_bytes}
use Rattle.std.proofs.lemmas.List.{append_assoc}
use Rattle.sd_site_cards.specs.declared.book_line.BookLine.{BookLine}
use Rattle.sd_site_cards.specs.SiteFields.{SiteFields}
use Rattle.sd_site_cards.specs.Forms.{height_line, master_line, ca_line, emm_line, ecm_line, every_line, cryptos_line}
use Rattle.sd_site_cards.specs.Forms.{span_line, messages_line, first_word_line, last_word_line, first_period_line}
use Rattle.sd_site_cards.specs.Written.{number_text, bytes_text, book_text, site_text}

-- thirteen texts, each after those before
joined : (a b c d e f g h i j k l m : List ℕ)
    → a ++ b ++ c ++ d ++ e ++ f ++ g ++ h ++ i ++ j ++ k ++ l ++ m
    ≡ a ++ (b ++ (c ++ (d ++ (e ++ (f ++ (g ++ (h ++ (i ++ (j ++ (k ++ (l ++ m)))))))))))
joined a b c d e f g h i j k l m =
    append_assoc (a ++ b ++ c ++ d ++ e ++ f ++ g ++ h ++ i ++ j ++ k) l m
    ∙ (append_assoc (a ++ b ++ c ++ d ++ e ++ f ++ g ++ h ++ i ++ j) k _
    ∙ (append_assoc (a ++ b ++ c ++ d ++ e ++ f ++ g ++ h ++ i) j _
    ∙ (append_assoc (a ++ b ++ c ++ d ++ e ++ f ++ g ++ h) i _
    ∙ (append_assoc (a ++ b ++ c ++ d ++ e ++ f ++ g) h _
    ∙ (append_assoc (a ++ b ++ c ++ d ++ e ++ f) g _
    ∙ (append_assoc (a ++ b ++ c ++ d ++ e) f _
    ∙ (append_assoc (a ++ b ++ c ++ d) e _
    ∙ (append_assoc (a ++ b ++ c) d _
    ∙ (append_assoc (a ++ b) c _
    ∙ append_assoc a b _)))))))))

-- a text that is begun with nothing and gets the lines of a site, one after the other, is its file
pub line_by_line : (site : SiteFields) (book : BookLine) {a b c d e f g h i j k l m n : List ℕ} → a ≡ []
    → b ≡ a ++ number_text height_line site.height
    → c ≡ b ++ bytes_text master_line site.master
    → d ≡ c ++ bytes_text ca_line (to_be_bytes w16 site.ca)
    → e ≡ d ++ number_text emm_line site.emm
    → f ≡ e ++ number_text ecm_line site.ecm
    → g ≡ f ++ number_text every_line site.every
    → h ≡ g ++ number_text cryptos_line site.cryptos
    → i ≡ h ++ number_text span_line site.span
    → j ≡ i ++ number_text messages_line site.messages
    → k ≡ j ++ number_text first_word_line site.first_word
    → l ≡ k ++ number_text last_word_line site.last_word
    → m ≡ l ++ number_text first_period_line site.first_period
    → n ≡ m ++ book_text book
    → n ≡ site_text site book
unfolding site_text
line_by_line site book a b c d e f g h i j k l m n =
    n ∙ rw (m, l, k, j, i, h, g, f, e, d, c, b, a) (
    joined (number_text height_line site.height) (bytes_text master_line site.master)
    (bytes_text ca_line (to_be_bytes w16 site.ca)) (number_text emm_line site.emm) (number_text ecm_line site.ecm)
    (number_text every_line site.every) (number_text cryptos_line site.cryptos) (number_text span_line site.span)
    (number_text messages_line site.messages) (number_text first_word_line site.first_word)
    (number_text last_word_line site.last_word) (number_text first_period_line site.first_period) (book_text book))
