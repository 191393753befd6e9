-- Facts on the titles of a picture.
use Rattle.std.proofs.Common.{◌≡◌, ◌<◌, ◌≤◌, ◌-◌, ◌^◌, ℕ, List, [], ◌∷◌, ◌++◌, Option, refl, sym, ap, ◌∙◌, append_assoc, arith, codes}
use Rattle.std.specs.Prelude.{All, Some, false}
use Rattle.std.specs.List.{flat_map, fold}
use Rattle.std.proofs.lemmas.Bool.{le-leb}
use Rattle.std.proofs.lemmas.List.Concat.{flat_map-append}
use Rattle.std.proofs.lemmas.List.Elements.{All-head, All-tail}
use Rattle.pd_symbols.specs.declared.channel.Channel.{Channel}
use Rattle.pd_symbols.specs.declared.channel.Channel.TheVariants.{Sop, SopPrime}
use Rattle.pd_line.specs.declared.notes.Start.{Start}
use Rattle.pd_line.specs.declared.notes.Start.TheVariants as start
use Rattle.pd_scenario.specs.Plan.{Plan, count}
use Rattle.pd_run.specs.Run.{Move, shown}
use Rattle.pd_watch.specs.Watch.{WatchData, after_step, all_at_rest}
use Rattle.pd_tell.specs.Words.{start_words}
use Rattle.pd_show.specs.declared.choice.Form.TheVariants.{Words}
use Rattle.pd_show.specs.declared.seen.Seen.{Seen}
use Rattle.pd_show.specs.Choices.{whole}
use Rattle.pd_show.specs.Lines.{Line, all_lines, chosen_lines, lines_before, lines_from, lines_of, start_lines, state_lines}
use Rattle.pd_show.specs.Pages.{bare_line, last_at, line_text}
use Rattle.pd_show.specs.Seen.{all_seen, seen_from, seen_of}
use Rattle.pd_show.specs.Since.{start_since}
use Rattle.pd_show.proofs.PageLemmas.{last_at-append}
use Rattle.pd_show.proofs.SinceLemmas.{start_line, starts_line}
use Rattle.pd_chart.specs.declared.frame.Frame.{Frame}
use Rattle.pd_draw.specs.Lanes.{Drawn, drawn_after, drawn_of, drawn_start, place_of}
use Rattle.pd_draw.specs.Marks.{packet_row, start_figure}
use Rattle.pd_draw.specs.Places.{title_words}
use Rattle.pd_draw.specs.declared.place.Place.{Place}
use Rattle.pd_draw.specs.Laws.{TitlesAreLines}

-- a whole show passes over no move
whole_chosen : (seen : Seen) → seen.entry.at < 2 ^ 64 → chosen_lines whole seen ≡ all_lines whole seen
unfolding chosen_lines
whole_chosen seen h =
    let early : seen.entry.at ≤ 18446744073709551615 = omega arith in
    rw (le-leb 0 seen.entry.at (omega arith), le-leb seen.entry.at 18446744073709551615 early) refl

whole_from : (plan : Plan) (ws : List WatchData) (moves : List Move)
    → All (λ (s : Seen). s.entry.at < 2 ^ 64) (seen_from plan ws moves)
    → lines_from plan whole ws moves ≡ flat_map (all_lines whole) (seen_from plan ws moves)
whole_from plan ws [] h = refl
whole_from plan ws (m ∷ ms) h =
    let P : Seen → Type 0 = λ (s : Seen). s.entry.at < 2 ^ 64 in
    let rest : List WatchData = after_step ws (shown m) in
    let first : (seen_of plan ws m).entry.at < 2 ^ 64 = All-head P (seen_of plan ws m) (seen_from plan rest ms) h in
    ap (λ (v : List Line). v ++ lines_from plan whole rest ms) (whole_chosen (seen_of plan ws m) first)
    ∙ ap (λ (v : List Line). all_lines whole (seen_of plan ws m) ++ v)
    (whole_from plan rest ms (All-tail P (seen_of plan ws m) (seen_from plan rest ms) h))

-- what the lanes know of the last line is what the whole show has told
before_from : (f : Frame) (chosen : Option ℕ) (d : Drawn) (seens : List Seen)
    → (fold (drawn_after f chosen) d seens).before ≡ last_at d.before (flat_map (all_lines whole) seens)
before_from f chosen d [] = refl
before_from f chosen d (s ∷ ss) =
    before_from f chosen (drawn_after f chosen d s) ss
    ∙ sym (last_at-append d.before (all_lines whole s) (flat_map (all_lines whole) ss))

parts : (a b s c d : List Line) (l : Line) → s ≡ l ∷ [] → a ++ ((b ++ (s ++ c)) ++ d) ≡ (a ++ b) ++ l ∷ (c ++ d)
parts a b s c d l e = rw e (simp append_assoc)

-- the lines of a move of the run that starts something
lines_of_start : (plan : Plan) (moves : List Move) (earlier later : List Seen) (seen : Seen) (start : Start)
    → All (λ (s : Seen). s.entry.at < 2 ^ 64) (all_seen plan moves) → all_seen plan moves ≡ earlier ++ seen ∷ later
    → seen.entry.start ≡ Some start
    → lines_of plan whole moves ≡ (flat_map (all_lines whole) earlier ++ lines_before seen)
    ++ start_line seen start ∷ (state_lines seen ++ flat_map (all_lines whole) later)
unfolding all_lines
lines_of_start plan moves earlier later seen start known seens_are starts =
    let flat : List Seen → List Line = flat_map (all_lines whole) in
    whole_from plan (all_at_rest (count plan)) moves known ∙ ap flat seens_are
    ∙ flat_map-append (all_lines whole) earlier (seen ∷ later)
    ∙ parts (flat earlier) (lines_before seen) (start_lines whole seen seen.entry.start) (state_lines seen) (flat later)
    (start_line seen start) (ap (start_lines whole seen) starts ∙ starts_line seen start)

-- the text of such a line
text_of_start : (f : Frame) (chosen : Option ℕ) (earlier : List Seen) (seen : Seen) (start : Start)
    → line_text Words (last_at 0 (flat_map (all_lines whole) earlier ++ lines_before seen)) (start_line seen start)
    ≡ bare_line seen.entry.at (start_since (drawn_of f chosen earlier).before seen) seen.port (start_words false seen.by start)
    ++ codes "\n"
unfolding line_text
text_of_start f chosen earlier seen start =
    let told : List Line = flat_map (all_lines whole) earlier in
    let line : ℕ → List ℕ =
    λ t. bare_line seen.entry.at (seen.entry.at - t) seen.port (start_words false seen.by start) ++ codes "\n" in
    ap line (last_at-append 0 told (lines_before seen))
    ∙ ap (λ t. line (last_at t (lines_before seen)))
    (sym (before_from f chosen (drawn_start f) earlier))

-- the title of what starts is a bare line, whatever its row
of_channel : (p : Place) (c : Channel) (words : List ℕ) → title_words p (packet_row c) words ≡ bare_line p.at p.since p.port words
of_channel p Sop words = refl
of_channel p SopPrime words = refl

title_is : (p : Place) (start : Start) (words : List ℕ)
    → title_words p (start_figure start).row words ≡ bare_line p.at p.since p.port words
title_is p (start.Packet side packet fate) words = of_channel p packet.channel words
title_is p (start.HardReset side) words = refl

pub titles : TitlesAreLines
titles plan moves earlier later seen start f chosen known seens_are starts = record {
  earlier = flat_map (all_lines whole) earlier ++ lines_before seen;
  line = start_line seen start;
  later = state_lines seen ++ flat_map (all_lines whole) later;
  lines_are = lines_of_start plan moves earlier later seen start known seens_are starts;
  text_is =
      text_of_start f chosen earlier seen start
      ∙ ap (λ (v : List ℕ). v ++ codes "\n")
      (sym (title_is (place_of f (drawn_of f chosen earlier).before seen) start (start_words false seen.by start)));
}
