use Rattle.sd_law_field.proofs.Moments.{each_has_a_number, each_is_clear, first_are_good, book_is_one}
use Rattle.sd_law_field.proofs.Moments.{all_write_the_same}
use Rattle.sd_law_field.proofs.laws.no_two_receivers_differ.Goals as goal

pub returns : goal.returns
returns c = record {
  numbered = each_has_a_number;
  clear = λ site clear events u i j good leaf at. each_is_clear site clear events u i j good leaf at;
  moments = first_are_good;
  book = book_is_one;
  same = λ site other clear events more u v i k j. all_write_the_same site other clear events more u v i k j;
}
