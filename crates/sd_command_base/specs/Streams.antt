-- Public meaning: how a stream's end is told.
use Rattle.sd_engine.specs.Taken.{StreamEnd, Whole, Breaks, RunsOn}
use Rattle.sd_command_base.specs.declared.status.Status.{Status}
use Rattle.sd_command_base.specs.declared.status.Status.TheVariants.{Done, BadStream}
use Rattle.sd_command_base.specs.declared.stream_refusal.StreamRefusal.TheVariants.{Broken, TooLong}

-- the status that comes of the end of a stream
abbrev pub stream_status : StreamEnd → Status
stream_status Whole = Done
stream_status (Breaks found) = BadStream (Broken found)
stream_status RunsOn = BadStream TooLong
