use Rattle.std.proofs.Common.{rules, ◌≡◌, subst, inl, inr, refl}
use Rattle.sd_command_base.specs.declared.status.Status.{Status}
use Rattle.sd_command_base.specs.declared.status.Status.TheVariants.{Done, PrintFault}
use Rattle.sd_command_base.specs.Outcome.{Implements}
use Rattle.sd_command_base.specs.Outside.{page_state, io_state_at}
use Rattle.sd_command_base.specs.Results.{RunResult, IsToldAs}
use Rattle.sd_command_line.specs.CommandLine.{words_of}
use Rattle.sd_command_base.proofs.RunAnswers.{done_line, cut_line, lineless_answers, causes, completes, told_as}
use Rattle.sd_run.proofs.Ordered.{usage_said}
use Rattle.sd_run.specs.Meaning.{meaning}
use Rattle.sd_run.proofs.top.run.Goals as goal

pub returns-in-Ok : goal.returns-in-Ok
returns-in-Ok g c =
    let words = words_of c.args.line.now in
    let a = io_state_at g.D.Depot g.P.Sink c.args.depot.now c.args.print.now c.args.steps.now in
    let b =
    io_state_at g.D.Depot g.P.Sink c.obey.new.depot c.obey.new.print c.obey.new.steps in
    let answers = lineless_answers (meaning words) a b Done done_line c.in-Ok.ensures.value in
    record {
      value = answers;
      notes = c.in-Ok.ensures.notes;
      ports = c.in-Ok.ensures.value.obeyed.ports;
      cause = causes (meaning words) a b Done answers;
      words = λ status refused. absurd (let none = c.in-Ok.ensures.words status refused in cc);
      usage = usage_said words a b Done answers;
      complete = λ files told. completes (meaning words) files a b Done answers told;
    }

pub returns-in-Err-PrintFault : goal.returns-in-Err-PrintFault
returns-in-Err-PrintFault g c =
    let words = words_of c.args.line.now in
    let a = io_state_at g.D.Depot g.P.Sink c.args.depot.now c.args.print.now c.args.steps.now in
    let b =
    io_state_at g.D.Depot g.P.Sink c.obey.new.depot c.obey.new.print c.obey.new.steps in
    let cut : c.in-Err-PrintFault.field-0 ≡ PrintFault = search rules in
    let obeyed = subst (λ (status : Status). Implements (meaning words) a b status) cut
    c.in-Err-PrintFault.ensures.value in
    let answers = lineless_answers (meaning words) a b PrintFault cut_line obeyed in
    record {
      value = answers;
      notes = c.in-Err-PrintFault.ensures.notes;
      ports = obeyed.obeyed.ports;
      cause = causes (meaning words) a b PrintFault answers;
      words = λ status refused. inr (inl refl);
      usage = usage_said words a b PrintFault answers;
      complete = λ files told. completes (meaning words) files a b PrintFault answers told;
    }

pub returns-in-Err : goal.returns-in-Err
returns-in-Err g c =
    let words = words_of c.args.line.now in
    let a = io_state_at g.D.Depot g.P.Sink c.args.depot.now c.args.print.now c.args.steps.now in
    let b =
    io_state_at g.D.Depot g.P.Sink c.obey.new.depot c.tell.new.print c.obey.new.steps in
    let left = page_state g.P.Sink c.obey.new.print in
    let answers : RunResult (meaning words) a b c.tell.result =
    record { status = c.in-Err.status; page = left; obeyed = c.in-Err.ensures.value; told = c.tell.ensures } in
    record {
      value = answers;
      notes = c.in-Err.ensures.notes;
      ports = c.in-Err.ensures.value.obeyed.ports;
      cause = causes (meaning words) a b c.tell.result answers;
      words = λ status refused.
          let same : c.in-Err.status ≡ status = let is = c.in-Err.ensures.words status refused in cc in
          subst (λ (said : Status). IsToldAs said c.tell.result) same
          (told_as left b.page c.in-Err.status c.tell.result c.tell.ensures);
      usage = usage_said words a b c.tell.result answers;
      complete = λ files told. completes (meaning words) files a b c.tell.result answers told;
    }
