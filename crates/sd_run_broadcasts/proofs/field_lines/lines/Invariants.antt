use Rattle.std.proofs.Common.{◌≡◌, string_bytes}
use Rattle.sd_run_broadcasts.specs.Field.{digest_of, lines_of_field}
use Rattle.sd_run_broadcasts.proofs.field_lines.lines.Given as goal

-- the text so far has the first line and those of the leaves so far, and the digest is of the last bytes
abbrev pub invariant-loop-u : goal.invariant-loop-u
invariant-loop-u l = record {
  told : string_bytes l.text ≡ lines_of_field l.field l.u;
  known : string_bytes l.digest ≡ digest_of l.last;
}
