-- Facts on the story of a run.
use Rattle.std.proofs.Common.{◌≡◌, List, [], ◌∷◌, ◌++◌, ap, ◌∙◌, sym, append_assoc}
use Rattle.std.proofs.lemmas.List.{append-nil}
use Rattle.pd_scenario.specs.Plan.{Plan}
use Rattle.pd_run.specs.Run.{Move}
use Rattle.pd_why.specs.declared.question.Question.{Question}
use Rattle.pd_why.specs.Story.{StoryData, no_story, step_of, story_from, story_of}

more_from : (plan : Plan) (q : Question) (past moves : List Move) (m : Move) (s : StoryData)
    → story_from plan q past (moves ++ m ∷ []) s ≡ step_of plan q (past ++ moves) m (story_from plan q past moves s)
more_from plan q past [] m s = ap (λ (before : List Move). step_of plan q before m s) (sym (append-nil past))
more_from plan q past (x ∷ moves) m s =
    more_from plan q (past ++ x ∷ []) moves m (step_of plan q past x s)
    ∙ ap (λ (before : List Move). step_of plan q before m (story_from plan q (past ++ x ∷ []) moves (step_of plan q past x s)))
    (append_assoc past (x ∷ []) moves)

-- the story with one more move
pub story_more : (plan : Plan) (q : Question) (moves : List Move) (m : Move)
    → story_of plan q (moves ++ m ∷ []) ≡ step_of plan q moves m (story_of plan q moves)
story_more plan q moves m = more_from plan q [] moves m no_story
