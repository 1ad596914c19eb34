-- Public meaning: what a run of `head` that is done leaves.
use Rattle.std.specs.Prelude.{◌≡◌, ◌-◌, ◌≤◌, length, Some, None, Ok}
use Rattle.std.specs.FinMap.{get, insert}
use Rattle.std.specs.List.{concat}
use Rattle.sd_base.specs.Types.{Bytes, PeriodNumber}
use Rattle.sd_ports.specs.Files.{Files}
use Rattle.sd_engine.specs.Taken.{Whole, packets_taken, end_of}
use Rattle.sd_spec.specs.Plan.{Plan, IsPlan, period_of}
use Rattle.sd_spec.specs.Refused.{whole_refusal}
use Rattle.sd_spec.specs.Sent.{broadcast}
use Rattle.sd_law_broadcast.specs.Named.{sets_named, NamesPeriod}
use Rattle.sd_law_broadcast.specs.Synced.{AreBytes}
use Rattle.sd_command_base.specs.Spec.{FileArgument, contents_of}
use Rattle.sd_command_base.specs.Outside.{IoState}
use Rattle.sd_run_broadcasts.specs.Head.{head_plan_meaning}

-- OUT has the broadcast of what these files say, of which each period names its cover.
pub record IsSent (site book clear out : FileArgument) (files : Files) (b : IoState) : Type 0 where
  -- the site and the book that their files say, within their limits
  pub plan : Plan
  pub said : (head_plan_meaning site book (contents_of files)).result ≡ Ok plan
  pub is_plan : IsPlan plan
  -- the clear stream, which is not refused
  pub bytes : Bytes
  pub there : get files clear.text ≡ Some bytes
  pub whole : end_of bytes ≡ Whole
  pub is_clear : whole_refusal plan.site (packets_taken bytes) ≡ None
  -- OUT is its broadcast's packets, and all other files are as they were
  pub made : b.place.files ≡ Some (insert files out.text (concat (broadcast plan (packets_taken bytes))))
  -- each period of the broadcast names, in OUT, disjoint sets that unite to exactly its leaves that aren't revoked. It
  -- is one set if none is, and at most 2r - 1 sets if r > 0 are. No label or key of a named set is derivable from what
  -- a revoked leaf is given
  pub periods : AreBytes bytes → (q : PeriodNumber) → plan.site.first_period ≤ q →
      q ≤ period_of plan (length (packets_taken bytes) - 1) →
      NamesPeriod plan q
      (sets_named plan.site.height plan.site.emm q (packets_taken (concat (broadcast plan (packets_taken bytes)))))
