-- Each line of `watch` is the last one of the bytes before it.
use Rattle.std.proofs.Common.{◌≡◌, refl, ℕ, ◌-◌, ◌≤◌, ◌^◌, List, [], ◌∷◌, ◌++◌, length, map, take}
use Rattle.std.proofs.Common.{sym, ap, subst, ◌∙◌, arith, length-take}
use Rattle.std.specs.Prelude.{min}
use Rattle.std.specs.List.{concat}
use Rattle.std.proofs.lemmas.List.{map-append}
use Rattle.sd_base.specs.Types.{Bytes, Packets}
use Rattle.sd_ports.specs.Bytes.{IsPrefix}
use Rattle.sd_engine.specs.Cut.{cut_packets, readable}
use Rattle.sd_site_cards.specs.CardFields.{CardFields}
use Rattle.sd_spec.specs.declared.report.Report.{Report}
use Rattle.sd_spec.specs.Offered.{out_from}
use Rattle.sd_spec.specs.Counting.{counting}
use Rattle.sd_spec.specs.Reports.{report_of, reports, turned_reports}
use Rattle.sd_run_broadcasts.specs.Watch.{report_lines, watch_report_line, skipped_at, watched_lines, watched_of}
use Rattle.sd_law_run.specs.Watched.{IsLastLine}
use Rattle.sd_law_formats.specs.Cuts.{packet_index}
use Rattle.sd_law_run.proofs.CutBefore.{place_low, read_till, readable_few, skipped_till}
use Rattle.sd_law_run.proofs.Reported.{last_of, packets_told, same_head, same_tail, told_alike, written_first}

-- of texts that are each made of a thing, one is of the thing at its place
record IsSplit {A B : Type 0} (f : A → B) (things : List A) (before : List B) (text : B) : Type 0 where
  first : List A
  thing : A
  rest : List A
  all : things ≡ first ++ thing ∷ rest
  earlier : map f first ≡ before
  here : f thing ≡ text

split_map : {A B : Type 0} (f : A → B) (things : List A) (before : List B) (text : B) (after : List B) →
    map f things ≡ before ++ text ∷ after → IsSplit f things before text
split_map f [] [] text after e = absurd cc
split_map f [] (one ∷ before) text after e = absurd cc
split_map f (thing ∷ things) [] text after e = record {
  first = [];
  thing = thing;
  rest = things;
  all = refl;
  earlier = refl;
  here = same_head (f thing) text (map f things) after e;
}
split_map f (thing ∷ things) (one ∷ before) text after e =
    let same = same_head (f thing) one (map f things) (before ++ text ∷ after) e in
    let is = split_map f things before text after
    (same_tail (f thing) one (map f things) (before ++ text ∷ after) e) in
    record {
      first = thing ∷ is.first;
      thing = is.thing;
      rest = is.rest;
      all = ap (λ (xs : List _). thing ∷ xs) is.all;
      earlier = ap (λ (ys : List _). f thing ∷ ys) is.earlier ∙ ap (λ (y : _). y ∷ before) same;
      here = is.here;
    }

-- the line of a report on a stream
abbrev line_on : CardFields → Bytes → Report → Bytes
line_on card bytes report = watch_report_line card.leaf (skipped_at bytes report.packets) report

module _ (card : CardFields) (bytes : Bytes) (k : ℕ) (low : k ≤ length (readable bytes)) where
  few : k ≤ length (cut_packets bytes)
  few = omega (arith, low, readable_few bytes)

  -- the bytes before packet k, and their packets
  abbrev first : Bytes
  first = take (packet_index k bytes) bytes

  abbrev packets : Packets
  packets = take k (readable bytes)

  lines_alike : (report : Report) → report.packets ≤ k → line_on card first report ≡ line_on card bytes report
  lines_alike report earlier =
      ap (λ (n : ℕ). watch_report_line card.leaf (min n (2 ^ 64 - 1)) report)
      (skipped_till k report.packets bytes few earlier)

  many : length packets ≡ k
  many = omega (arith, low, length-take k (readable bytes))

  -- the lines of these bytes
  first_lines : map (line_on card first) (reports card packets)
      ≡ map (line_on card bytes) (turned_reports card [] packets) ++ line_on card bytes (report_of card packets) ∷ []
  unfolding reports
  first_lines =
      map-append (line_on card first) (turned_reports card [] packets) (report_of card packets ∷ [])
      ∙ ap (λ (ls : List Bytes). ls ++ line_on card first (report_of card packets) ∷ [])
      (told_alike (line_on card first) (line_on card bytes) card [] packets
      (λ report earlier. lines_alike report (omega (arith, earlier, many))))
      ∙ ap (λ (line : Bytes). map (line_on card bytes) (turned_reports card [] packets) ++ line ∷ [])
      (lines_alike (report_of card packets) (omega (arith, packets_told card packets, many)))

  last_is : (before : List Bytes) (line : Bytes) (reported : List Report) (report : Report) →
      report_of card packets ≡ report → turned_reports card [] packets ≡ reported →
      map (line_on card bytes) reported ≡ before → line_on card bytes report ≡ line →
      IsLastLine card bytes before line
  unfolding watched_lines watched_of
  last_is before line reported report here earlier befores is =
      let told : report.packets ≡ k = ap (λ (r : Report). r.packets) (sym here) ∙ (packets_told card packets ∙ many) in
      let place : packet_index report.packets bytes ≡ packet_index k bytes = ap (λ (n : ℕ). packet_index n bytes) told
      in
      record {
        report = report;
        told = is;
        within = omega (arith, place, place_low k bytes few);
        lines =
            ap (λ (n : ℕ). report_lines card (take n bytes) (reports card (readable (take n bytes)))) place
            ∙ ap (λ (ps : Packets). map (line_on card first) (reports card ps)) (read_till k bytes few)
            ∙ first_lines
            ∙ ap (λ (rs : List Report). map (line_on card bytes) rs ++ line_on card bytes (report_of card packets) ∷ [])
            earlier
            ∙ ap (λ (ls : List Bytes). ls ++ line_on card bytes (report_of card packets) ∷ []) befores
            ∙ ap (λ (l : Bytes). before ++ l ∷ []) (ap (line_on card bytes) here ∙ is);
        out = subst (λ (n : ℕ). IsPrefix (concat (out_from card [] (counting card [] (readable (take n bytes)))))
            (concat (out_from card [] (counting card [] (readable bytes))))) (sym place)
            (subst (λ (ps : Packets). IsPrefix (concat (out_from card [] (counting card [] ps)))
            (concat (out_from card [] (counting card [] (readable bytes))))) (sym (read_till k bytes few))
            (written_first card k (readable bytes)));
      }

-- each line is the last one of the bytes before what it is told before
pub last_lines : (card : CardFields) (bytes : Bytes) (before after : List Bytes) (line : Bytes) →
    watched_lines card bytes ≡ before ++ line ∷ after → IsLastLine card bytes before line
unfolding watched_lines reports
last_lines card bytes before after line e =
    let split = split_map (line_on card bytes) (reports card (readable bytes)) before line after e in
    let last = last_of card [] (readable bytes) split.first split.rest split.thing split.all in
    last_is card bytes last.count last.low before line split.first split.thing last.here last.earlier split.earlier
    split.here
