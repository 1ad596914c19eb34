-- A site and a book that were read are a plan.
use Rattle.sd_spec.specs.Plan.{Plan, IsPlan}
use Rattle.sd_command_base.specs.Spec.{FileArgument, Readings}
use Rattle.sd_law_formats.proofs.SayableSites.{ca_fits}
use Rattle.sd_law_run.specs.Good.{IsGoodSite, IsGoodBook}

pub good_plan : (given : Readings) (site book : FileArgument) (plan : Plan) → IsGoodSite (given site) plan.site →
    IsGoodBook (given book) plan.site.height plan.commands → IsPlan plan
good_plan given site book plan good_site good_book =
    record {
      site = good_site.is_site.ranges;
      ca = ca_fits good_site.bytes plan.site good_site.is_site;
      book = good_book.within;
    }
