use Rattle.sd_law_run.proofs.FolderEnds.{next_done, twin_done}
use Rattle.sd_law_run.proofs.FolderRuns.{folder_kept, torn_kept}
use Rattle.sd_law_run.proofs.folders.folders_keep_the_chain.Goals as goal

pub returns-clause-kept : goal.returns-clause-kept
returns-clause-kept c = folder_kept

pub returns-clause-next : goal.returns-clause-next
returns-clause-next c = next_done

pub returns-clause-twin : goal.returns-clause-twin
returns-clause-twin c = twin_done

pub returns-clause-torn : goal.returns-clause-torn
returns-clause-torn c = torn_kept
