use Rattle.std.proofs.Common.{◌≡◌, ℕ, ◌+◌, ◌-◌, ◌*◌, ◌≤◌, List, [], ◌∷◌, ◌++◌, length, replicate, ap, sym, ◌∙◌, subst, arith}
use Rattle.std.proofs.lemmas.List.{length_push}
use Rattle.pd_keep.specs.Firsts.{AreStarts}
use Rattle.pd_keep.proofs.Starts.{place_more, starts_push}
use Rattle.pd_keep.proofs.spans.put_starts.Goals as goal

pub loop-starts-preserved : goal.loop-starts-preserved
loop-starts-preserved c =
    let old : List ℕ = c.args.starts.now.items in
    let starts : List ℕ = c.loop-starts.starts.items in
    let pushed : c.push.new.self.items ≡ starts ++ c.args.place ∷ [] = c.in_ok-push.ensures.items in
    let count = length_push starts c.args.place in
    let longer = ap length pushed in
    let more = c.loop-starts.invariant.more in
    let early : c.args.first ≤ length starts * 64 = omega (arith, c.if-first-len.true, c.len-in-loop-starts.ensures) in
    let one_more : length starts - length old + 1 ≡ length c.push.new.self.items - length old = omega (arith, longer, count, more) in
    record {
      starts = λ spans inside from known. subst (λ (l : List ℕ). AreStarts l spans) (sym pushed)
          (starts_push starts c.args.place c.args.first spans inside from early (c.loop-starts.invariant.starts spans inside from known));
      placed = pushed ∙ place_more old starts c.args.place (length starts - length old) c.loop-starts.invariant.placed
          ∙ ap (λ k. old ++ replicate k c.args.place) one_more;
      few = omega (arith, longer, count, c.loop-starts-test.true, c.len.ensures);
      more = omega (arith, longer, count, more);
    }

pub returns-in_err-push-clause-starts : goal.returns-in_err-push-clause-starts
returns-in_err-push-clause-starts c =
    let starts : List ℕ = c.loop-starts.starts.items in
    let same : c.push.new.self.items ≡ starts = c.in_err-push.ensures.items in
    λ spans inside from old. subst (λ (l : List ℕ). AreStarts l spans) (sym same) (c.loop-starts.invariant.starts spans inside from old)
