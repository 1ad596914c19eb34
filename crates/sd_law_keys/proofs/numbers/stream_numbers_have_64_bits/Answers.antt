use Rattle.sd_law_keys.proofs.Short.{numbers_short}
use Rattle.sd_law_keys.proofs.numbers.stream_numbers_have_64_bits.Goals as goal

pub returns : goal.returns
returns c = numbers_short
