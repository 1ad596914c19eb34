-- Public meaning: the packets of a period's entitlements.
use Rattle.std.specs.Prelude.{ℕ, List, map, Option}
use Rattle.sd_tree_keys.specs.declared.set.SetName.{SetName}
use Rattle.sd_packet.specs.Packing.{section_packet}
use Rattle.sd_tree_keys.specs.Keys.{period_key_of, check_value_of}
use Rattle.sd_site_cards.specs.SiteFields.{SiteFields, run_name_of}
use Rattle.sd_message.specs.EmmSpelled.{emm_section}
use Rattle.sd_message.specs.Period.{Period, emms_of}
use Rattle.sd_message.specs.declared.emm.Entry.{Entry}
use Rattle.sd_spec.specs.Messages.{entry_of}

-- the name of the run, a period's number, the check value of its key, and its entries
abbrev pub period_of_entries : Option ℕ → ℕ → List ℕ → List Entry → Period
period_of_entries run q check entries = record { run = run; number = q; check = check; entries = entries }

-- the entitlements of period q where these are its sets [this project, docs/FORMATS.md, Messages]
unfoldable pub period_of_sets : SiteFields → ℕ → List SetName → Period
period_of_sets site q sets =
    period_of_entries (run_name_of site) q (check_value_of (period_key_of site.master q)) (map (entry_of site q) sets)

-- the packets of a period's sections, each with counter 0 [this project, docs/FORMATS.md, Sections]
unfoldable pub period_packets : ℕ → Period → List (List ℕ)
period_packets pid period = map (λ emm. section_packet (emm_section emm) pid 0) (emms_of period)
