use Rattle.sd_law_progress.proofs.Given.{sent_to}
use Rattle.sd_law_progress.proofs.Returns.{crypto_back, soon_written}
use Rattle.sd_law_progress.proofs.progress.the_picture_is_back.Goals as goal

pub returns-clause-crypto : goal.returns-clause-crypto
returns-clause-crypto c = λ plan clear u x flags k j is all whole leaf are begins place.
    crypto_back plan clear u (sent_to is all whole leaf) x k flags are begins place j

pub returns-clause-out : goal.returns-clause-out
returns-clause-out c = λ plan clear u x flags low is all whole leaf.
    soon_written plan clear u (sent_to is all whole leaf) x flags low
