use Rattle.std.proofs.Common.{◌≡◌, ◌++◌, take, string_bytes}
use Rattle.std.specs.List.{flat_map}
use Rattle.sd_command_line.specs.Pages.{topic_line}
use Rattle.sd_command_line.proofs.page.push_topics.Given as goal

-- the text so far has the lines of the first of them
abbrev pub invariant-loop-topic : goal.invariant-loop-topic
invariant-loop-topic l =
    string_bytes l.text ≡ string_bytes l.fn.text ++ flat_map topic_line (take l.topic-index l.topics)
