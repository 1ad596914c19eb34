-- What the monitor writes of packets, one after the other.
use Rattle.std.proofs.Common.{◌≡◌, ℕ, suc, ◌+◌, ◌-◌, ◌^◌, ◌≤◌, List, [], ◌∷◌, ◌++◌, length, ap, subst, ◌∙◌, arith}
use Rattle.std.specs.List.{concat}
use Rattle.sd_site_cards.specs.SiteFields.{SiteFields, site_fields_of}
use Rattle.sd_site_cards.specs.declared.site.Site.{Site}
use Rattle.sd_engine.specs.Stage.{Chain}
use Rattle.sd_run_streams.specs.MessageLines.{message_line, message_lines}
use Rattle.sd_run_streams.specs.MonitorStaged.{IsBegun, monitor_does}
use Rattle.sd_run_streams.specs.declared.monitor.Monitor.{Monitor}

-- it monitors this site, and is to be offered the packet of this number
pub record IsAt (fields : SiteFields) (k : ℕ) (s : Monitor) : Type 0 where
  pub site : site_fields_of s.site ≡ fields
  pub number : s.number ≡ k

-- the line of a packet is that of its place
pub line_at : (site : SiteFields) (k : ℕ) (s t : Monitor) (packet bytes : List ℕ) (n : ℕ) → IsAt site k s →
    monitor_does s packet t bytes n → bytes ≡ message_line site k packet
line_at site k s t packet bytes n is does =
    does.line
    ∙ ap (λ (f : SiteFields). message_line f s.number packet) is.site
    ∙ ap (λ (m : ℕ). message_line site m packet) is.number

-- and the next packet is that of the next number
pub next_at : (site : SiteFields) (k : ℕ) (s t : Monitor) (packet bytes : List ℕ) (n : ℕ) → IsAt site k s →
    suc k ≤ 2 ^ 64 - 1 → monitor_does s packet t bytes n → IsAt site (suc k) t
next_at site k s t packet bytes n is few does = record {
  site = ap (λ (x : Site). site_fields_of x) does.site ∙ is.site;
  number = omega (arith, does.number, is.number, few);
}

-- packets from a number on
pub chain_lines : (site : SiteFields) (k : ℕ) (packets : List (List ℕ)) (s t : Monitor) (bytes : List ℕ) (n : ℕ) →
    IsAt site k s → k + length packets ≤ 2 ^ 64 - 1 → Chain monitor_does s packets t bytes n →
    (bytes ≡ concat (message_lines site k packets)) × IsAt site (k + length packets) t × (n ≡ 0)
unfolding message_lines
chain_lines site k [] s t bytes n is few (same, none, zero) =
    let still : k ≡ k + 0 = omega arith in (
      none,
      subst (λ (m : ℕ). IsAt site m t) still (subst (λ (u : Monitor). IsAt site k u) same is),
      zero,
    )
chain_lines site k (packet ∷ packets) s t bytes n is few (mid, first, rest, m, j, one, more, joined, counted) =
    let next : IsAt site (suc k) mid = next_at site k s mid packet first m is (omega (arith, few)) one in
    let then = chain_lines site (suc k) packets mid t rest j next (omega (arith, few)) more in
    let place : suc k + length packets ≡ k + suc (length packets) = omega arith in (
      joined
          ∙ ap (λ (xs : List ℕ). xs ++ rest) (line_at site k s mid packet first m is one)
          ∙ ap (λ (xs : List ℕ). message_line site k packet ++ xs) then.0,
      subst (λ (m : ℕ). IsAt site m t) place then.1,
      omega (arith, counted, one.no_steps, then.2),
    )

-- packets from the first one on
pub begun_lines : (site : SiteFields) (packets : List (List ℕ)) (s t : Monitor) (bytes : List ℕ) (n : ℕ) →
    IsBegun site s → length packets ≤ 2 ^ 64 - 1 → Chain monitor_does s packets t bytes n →
    (bytes ≡ concat (message_lines site 0 packets)) × (n ≡ 0)
begun_lines site packets s t bytes n is few chain =
    let begun : IsAt site 0 s = record { site = is.site; number = is.number } in
    let all = chain_lines site 0 packets s t bytes n begun (omega (arith, few)) chain in (all.0, all.2)
