-- The objects of a line, read part by part.
use Rattle.std.proofs.Common.{◌≡◌, ℕ, List, ◌++◌, refl, append_assoc, Some, None}
use Rattle.std.specs.Prelude.{Option, option_and_then}
use Rattle.pd_log.specs.declared.words.ObjectPart.{ObjectPart}
use Rattle.pd_log.specs.Parts.{Parts, next}
use Rattle.pd_log.specs.Words.{announced_at, announced_in, given_in, objects_given, objects_in, with_objects}
use Rattle.pd_log.proofs.PartByPart.{begins}

pub joined : (read given : List ℕ) (more : Option (List ℕ))
    → with_objects (read ++ given) more ≡ with_objects read (option_and_then (λ others. Some (given ++ others)) more)
joined read given None = refl
joined read given (Some more) = rw append_assoc

pub one_more : (read : List ℕ) (ps : Parts) (p : List ℕ) (others : Parts) (given : ObjectPart) → Some (p, others) ≡ next ps
    → Some given ≡ given_in p
    → with_objects (read ++ objects_given given) (objects_in others) ≡ with_objects read (objects_in ps)
one_more read ps p others given first is =
    rw (begins ps p others first, ← is) (joined read (objects_given given) (objects_in others))

-- a word that announces no header
pub passed_over : (ps : Parts) (p : List ℕ) (others : Parts) → Some (p, others) ≡ next ps → None ≡ announced_at p others
    → announced_in others ≡ announced_in ps
passed_over ps p others first none = rw (begins ps p others first, ← none) refl
