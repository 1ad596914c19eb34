use Rattle.std.proofs.Common.{ℕ, List, false, ◌≡◌, ap, subst, sym, ◌∙◌}
use Rattle.std.specs.Prelude.{◌≢◌, ◌==◌, bytes_eq}
use Rattle.std.specs.List.{list_any}
use Rattle.sd_watch.specs.Tags.{packet_tag}
use Rattle.sd_watch.proofs.Recents.{copy_among, tag_then_packet}
use Rattle.sd_watch.proofs.recent.Recent.has.Goals as goal

-- src/copies.rt:30:5
pub returns-then-has_tag : goal.returns-then-has_tag
returns-then-has_tag c past is =
    copy_among past c.args.packet.now c.args.self.now c.is_among.result is
    (subst (λ (k : ℕ). k ≢ 0) c.scrambling.ensures.value c.if-scrambling-eq0.false)
    (c.is_among.ensures ∙ ap (λ (ps : List (List ℕ)). list_any (bytes_eq c.args.packet.now) ps) c.deref.ensures.value)

-- src/copies.rt:30:5
pub returns-else-has_tag : goal.returns-else-has_tag
returns-else-has_tag c past is =
    let none : list_any (λ other. other == packet_tag c.args.packet.now) c.args.self.now.tags ≡ false =
    ap (λ (tag : ℕ). list_any (λ other. other == tag) c.args.self.now.tags) (sym c.tag_of.ensures)
    ∙ (sym c.has_tag.ensures ∙ c.if-has_tag.false) in
    c.if-has_tag.false ∙ copy_among past c.args.packet.now c.args.self.now false is
    (subst (λ (k : ℕ). k ≢ 0) c.scrambling.ensures.value c.if-scrambling-eq0.false)
    (tag_then_packet past c.args.packet.now c.args.self.now is none)
