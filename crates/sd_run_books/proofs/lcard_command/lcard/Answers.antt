use Rattle.std.proofs.Common.{inl, subst, ℕ, List}
use Rattle.std.proofs.lemmas.Result.{err_from_is_err_and}
use Rattle.sd_site_cards.specs.SiteFields.{site_fields_of}
use Rattle.sd_lsd.specs.Fields.{layer_card_of, layer_bytes}
use Rattle.sd_command_base.specs.Outside.{depot_state, io_state}
use Rattle.sd_command_base.specs.Work.{Uncounted}
use Rattle.sd_command_base.specs.Spec.{of_result, value, ◌>>=◌}
use Rattle.sd_command_base.specs.Outcome.{OutcomeWithin, status_of}
use Rattle.sd_command_base.proofs.Follow.{looks_follows, looked_follows}
use Rattle.sd_command_base.specs.Files.{site_of_file}
use Rattle.sd_command_base.specs.Made.{making}
use Rattle.sd_command_base.specs.Shown.{shown_word, shown_number}
use Rattle.sd_command_base.proofs.Making.{any_steps}
use Rattle.sd_command_base.proofs.Thirds.{judged_refused, judged_obeys, wanting_obeys}
use Rattle.sd_run_books.specs.Lcard.{told_leaf, told_width, carding}
use Rattle.sd_run_books.proofs.lcard_command.lcard.Goals as goal

pub returns-in_err-site : goal.returns-in_err-site
returns-in_err-site g c page =
    let p = err_from_is_err_and c.from_residual.result c.from_residual.ensures.1 in
    let site = shown_word c.args.site in
    let leaf = shown_number c.args.leaf in
    let width = shown_number c.args.width in
    let out = shown_word c.args.out in
    rw (p.1, p.2) (looks_follows site_fields_of (site_of_file site.number) (λ fields. carding fields leaf width out)
    site
    (depot_state g.D.Depot c.args.depot.now) (depot_state g.D.Depot c.read_site.new.depot) page c.args.steps.now
    c.in_err-site.field-0.0 c.in_err-site.ensures)

pub returns-in_err-u : goal.returns-in_err-u
returns-in_err-u g c page =
    let p = err_from_is_err_and c.from_residual-in_err-u.result c.from_residual-in_err-u.ensures.1 in
    let site = shown_word c.args.site in
    let leaf = shown_number c.args.leaf in
    let width = shown_number c.args.width in
    let out = shown_word c.args.out in
    let q = depot_state g.D.Depot c.read_site.new.depot in
    let status = c.in_err-u.field-0.0 in
    let f = site_fields_of c.in_ok-site.site in
    rw (p.1, p.2) (looked_follows site_fields_of (site_of_file site.number) (λ fields. carding fields leaf width out)
    site
    (depot_state g.D.Depot c.args.depot.now) q page c.args.steps.now (io_state q page c.args.steps.now)
    c.in_ok-site.site
    status c.in_ok-site.ensures
    (judged_refused (λ (u : ℕ). u) (told_leaf f.height leaf)
    (λ u. of_result (told_width f.height width)
    >>= λ w. value (making Uncounted out (layer_bytes (layer_card_of f.master f.ca f.height w u))))
    q page c.args.steps.now status (inl c.in_err-u.ensures.value)))

pub returns-in_err-w : goal.returns-in_err-w
returns-in_err-w g c page =
    let p = err_from_is_err_and c.from_residual-in_err-w.result c.from_residual-in_err-w.ensures.1 in
    let site = shown_word c.args.site in
    let leaf = shown_number c.args.leaf in
    let width = shown_number c.args.width in
    let out = shown_word c.args.out in
    let q = depot_state g.D.Depot c.read_site.new.depot in
    let b = io_state q page c.args.steps.now in
    let status = c.in_err-w.field-0.0 in
    let f = site_fields_of c.in_ok-site.site in
    let u = c.in_ok-u.u in
    rw (p.1, p.2) (looked_follows site_fields_of (site_of_file site.number) (λ fields. carding fields leaf width out)
    site
    (depot_state g.D.Depot c.args.depot.now) q page c.args.steps.now b c.in_ok-site.site status c.in_ok-site.ensures
    (judged_obeys (told_leaf f.height leaf) u
    (λ u. of_result (told_width f.height width)
    >>= λ w. value (making Uncounted out (layer_bytes (layer_card_of f.master f.ca f.height w u))))
    b b status c.in_ok-u.ensures.value
    (judged_refused (λ (w : ℕ). w) (told_width f.height width)
    (λ w. value (making Uncounted out (layer_bytes (layer_card_of f.master f.ca f.height w u))))
    q page c.args.steps.now status (inl c.in_err-w.ensures.value))))

pub returns-in_err-bytes : goal.returns-in_err-bytes
returns-in_err-bytes g c page =
    let p = err_from_is_err_and c.from_residual-in_err-bytes.result c.from_residual-in_err-bytes.ensures.1 in
    let site = shown_word c.args.site in
    let leaf = shown_number c.args.leaf in
    let width = shown_number c.args.width in
    let out = shown_word c.args.out in
    let q = depot_state g.D.Depot c.read_site.new.depot in
    let a = io_state q page c.args.steps.now in
    let b = io_state q page c.card_bytes.new.steps in
    let status = c.in_err-bytes.field-0.0 in
    let f = site_fields_of c.in_ok-site.site in
    let u = c.in_ok-u.u in
    let w = c.in_ok-w.w in
    let bytes = layer_bytes (layer_card_of f.master f.ca f.height w u) in
    rw (p.1, p.2) (looked_follows site_fields_of (site_of_file site.number) (λ fields. carding fields leaf width out)
    site
    (depot_state g.D.Depot c.args.depot.now) q page c.args.steps.now b c.in_ok-site.site status c.in_ok-site.ensures
    (judged_obeys (told_leaf f.height leaf) u
    (λ u. of_result (told_width f.height width)
    >>= λ w. value (making Uncounted out (layer_bytes (layer_card_of f.master f.ca f.height w u))))
    a b status c.in_ok-u.ensures.value
    (judged_obeys (told_width f.height width) w
    (λ w. value (making Uncounted out (layer_bytes (layer_card_of f.master f.ca f.height w u))))
    a b status c.in_ok-w.ensures.value
    (any_steps out bytes q page c.card_bytes.new.steps c.args.steps.now b status
    (wanting_obeys (value (making Uncounted out bytes)) q page c.card_bytes.new.steps status
    c.in_err-bytes.ensures.fault)))))

pub returns : goal.returns
returns g c page =
    let site = shown_word c.args.site in
    let leaf = shown_number c.args.leaf in
    let width = shown_number c.args.width in
    let out = shown_word c.args.out in
    let q = depot_state g.D.Depot c.read_site.new.depot in
    let a = io_state q page c.args.steps.now in
    let b = io_state (depot_state g.D.Depot c.make_file.new.depot) page c.card_bytes.new.steps in
    let status = status_of c.make_file.result in
    let f = site_fields_of c.in_ok-site.site in
    let u = c.in_ok-u.u in
    let w = c.in_ok-w.w in
    let bytes = layer_bytes (layer_card_of f.master f.ca f.height w u) in
    let made = rw c.deref.ensures.value at c.make_file.ensures page c.card_bytes.new.steps Uncounted in
    looked_follows site_fields_of (site_of_file site.number) (λ fields. carding fields leaf width out) site
    (depot_state g.D.Depot c.args.depot.now) q page c.args.steps.now b c.in_ok-site.site status c.in_ok-site.ensures
    (judged_obeys (told_leaf f.height leaf) u
    (λ u. of_result (told_width f.height width)
    >>= λ w. value (making Uncounted out (layer_bytes (layer_card_of f.master f.ca f.height w u))))
    a b status c.in_ok-u.ensures.value
    (judged_obeys (told_width f.height width) w
    (λ w. value (making Uncounted out (layer_bytes (layer_card_of f.master f.ca f.height w u))))
    a b status c.in_ok-w.ensures.value
    (any_steps out bytes q page c.card_bytes.new.steps c.args.steps.now b status
    (subst (λ (xs : List ℕ). OutcomeWithin
    (value (making Uncounted out xs)) (io_state q page c.card_bytes.new.steps) b status)
    c.in_ok-bytes.ensures.value made))))
