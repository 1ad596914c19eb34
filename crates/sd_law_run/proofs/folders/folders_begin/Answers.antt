use Rattle.sd_law_run.proofs.FolderBegins.{folder_begins}
use Rattle.sd_law_run.proofs.folders.folders_begin.Goals as goal

pub returns : goal.returns
returns c = folder_begins
