use Rattle.std.proofs.Common.{refl}
use Rattle.std.proofs.lemmas.Result.{err_from_is_err_and}
use Rattle.sd_site_cards.specs.SiteFields.{site_fields_of}
use Rattle.sd_command_base.specs.Outside.{depot_state}
use Rattle.sd_command_base.specs.declared.status.LimitKind.TheVariants.{FieldHeight}
use Rattle.sd_command_base.specs.Spec.{value, ◌>>=◌}
use Rattle.sd_command_base.proofs.Follow.{reads_first, reads_second, reads_two}
use Rattle.sd_command_base.specs.Files.{low_site_of_file}
use Rattle.sd_command_base.specs.Shown.{shown_word}
use Rattle.sd_command_base.proofs.Thirds.{same_refusal, same_value}
use Rattle.sd_run_broadcasts.specs.Field.{clear_of_file, inputs_by, inputs_meaning, most_field_height}
use Rattle.sd_run_broadcasts.proofs.field_inputs.read_inputs.Goals as goal

pub returns-in_err-site-clause-value : goal.returns-in_err-site-clause-value
unfolding inputs_by
returns-in_err-site-clause-value g c =
    let p = err_from_is_err_and c.from_residual.result c.from_residual.ensures.1 in
    let site = shown_word c.args.site in
    let clear = shown_word c.args.clear in
    rw (p.1, p.2) (reads_first site_fields_of (λ inputs. record {
      site = site_fields_of inputs.0;
      clear =
          inputs.1.items;
    })
    (low_site_of_file site.number most_field_height FieldHeight)
    (λ given fields. clear_of_file clear.number (given clear)
    >>= λ packets. value (record { site = fields; clear = packets })) site
    (depot_state g.D.Depot c.args.depot.now) (depot_state g.D.Depot c.read_low_site.new.depot) c.in_err-site.field-0.0
    c.in_err-site.ensures.value)

pub returns-in_err-clear-clause-value : goal.returns-in_err-clear-clause-value
unfolding inputs_by
returns-in_err-clear-clause-value g c =
    let p = err_from_is_err_and c.from_residual-in_err-clear.result c.from_residual-in_err-clear.ensures.1 in
    let site = shown_word c.args.site in
    let clear = shown_word c.args.clear in
    let fields = site_fields_of c.in_ok-site.site in
    rw (p.1, p.2) (same_refusal (λ packets. record { site = fields; clear = packets.items })
    (λ inputs. record { site = site_fields_of inputs.0; clear = inputs.1.items }) (inputs_meaning site clear)
    (depot_state g.D.Depot c.args.depot.now) (depot_state g.D.Depot c.read_clear.new.depot) c.in_err-clear.field-0.0
    (reads_second site_fields_of (λ packets. packets.items) (λ packets. record { site = fields; clear = packets.items })
    (low_site_of_file site.number most_field_height FieldHeight) (λ fields got. clear_of_file clear.number got)
    (λ fields packets. value (record { site = fields; clear = packets })) site clear
    (depot_state g.D.Depot c.args.depot.now) (depot_state g.D.Depot c.read_low_site.new.depot)
    (depot_state g.D.Depot c.read_clear.new.depot) c.in_ok-site.site c.in_err-clear.field-0.0 c.requires
    c.in_ok-site.ensures.value c.in_err-clear.ensures.value))

pub returns-clause-value : goal.returns-clause-value
unfolding inputs_by
returns-clause-value g c =
    let site = shown_word c.args.site in
    let clear = shown_word c.args.clear in
    let fields = site_fields_of c.in_ok-site.site in
    same_value (λ packets. record { site = fields; clear = packets.items })
    (λ inputs. record { site = site_fields_of inputs.0; clear = inputs.1.items }) (inputs_meaning site clear)
    (depot_state g.D.Depot c.args.depot.now) (depot_state g.D.Depot c.read_clear.new.depot) c.in_ok-clear.clear
    (c.in_ok-site.site, c.in_ok-clear.clear) refl
    (reads_two site_fields_of (λ packets. packets.items) (λ packets. record { site = fields; clear = packets.items })
    (low_site_of_file site.number most_field_height FieldHeight) (λ fields got. clear_of_file clear.number got)
    (λ fields packets. record { site = fields; clear = packets }) site clear
    (depot_state g.D.Depot c.args.depot.now) (depot_state g.D.Depot c.read_low_site.new.depot)
    (depot_state g.D.Depot c.read_clear.new.depot) c.in_ok-site.site c.in_ok-clear.clear c.requires
    c.in_ok-site.ensures.value c.in_ok-clear.ensures.value refl)

pub returns-in_err-site-clause-low : goal.returns-in_err-site-clause-low
returns-in_err-site-clause-low g c =
    let p = err_from_is_err_and c.from_residual.result c.from_residual.ensures.1 in
    rw p.1 tt

pub returns-in_err-site-clause-few : goal.returns-in_err-site-clause-few
returns-in_err-site-clause-few g c =
    let p = err_from_is_err_and c.from_residual.result c.from_residual.ensures.1 in
    rw p.1 tt

pub returns-in_err-clear-clause-low : goal.returns-in_err-clear-clause-low
returns-in_err-clear-clause-low g c =
    let p = err_from_is_err_and c.from_residual-in_err-clear.result c.from_residual-in_err-clear.ensures.1 in
    rw p.1 tt

pub returns-in_err-clear-clause-few : goal.returns-in_err-clear-clause-few
returns-in_err-clear-clause-few g c =
    let p = err_from_is_err_and c.from_residual-in_err-clear.result c.from_residual-in_err-clear.ensures.1 in
    rw p.1 tt

pub returns-clause-low : goal.returns-clause-low
returns-clause-low g c = c.in_ok-site.ensures.low

pub returns-clause-few : goal.returns-clause-few
returns-clause-few g c = c.in_ok-clear.ensures.few
