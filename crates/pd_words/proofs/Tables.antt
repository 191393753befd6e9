-- A command with one word or option more, and a program with one command more.
use Rattle.std.proofs.Common.{◌≡◌, ◌+◌, ◌<◌, ◌∷◌, ◌++◌, ◌∙◌, ℕ, List, [], ap, codes, refl, sym, get_or, length, map, take}
use Rattle.std.proofs.lemmas.List.{append_assoc, map-append, take_more}
use Rattle.clap.specs.Simple.{new_shape}
use Rattle.clap.specs.Words.{App, Rule, Shape, Text, with_rule, with_subcommand}
use Rattle.pd_words.specs.Lab as spec

-- what a list becomes by one element more
map_more : {X Y : Type 0} (f : X → Y) (xs : List X) (i : ℕ) (d : X) (y : Y) → i < length xs → y ≡ f (get_or xs i d)
    → map f (take i xs) ++ y ∷ [] ≡ map f (take (i + 1) xs)
map_more f xs i d y here is = ap (λ y. map f (take i xs) ++ y ∷ []) is ∙ sym (map-append f (take i xs) (get_or xs i d ∷ []))
    ∙ ap (map f) (sym (take_more xs i d here))

pub more_rules : {X : Type 0} (name : Text) (front : List Rule) (f : X → Rule) (xs : List X) (i : ℕ) (d : X) (old new : App) (r : Rule)
    → i < length xs → new ≡ with_rule old r → old.top ≡ spec.command name (front ++ map f (take i xs)) → r ≡ f (get_or xs i d)
    → new.top ≡ spec.command name (front ++ map f (take (i + 1) xs))
more_rules name front f xs i d old new r here is so_far rule =
    ap (λ (a : App). a.top) is ∙ ap (λ (s : Shape). record s { rules = s.rules ++ r ∷ [] }) so_far
    ∙ ap (spec.command name) (append_assoc front (map f (take i xs)) (r ∷ []) ∙ ap (λ rs. front ++ rs) (map_more f xs i d r here rule))

one_more : (app : App) (shapes : List Shape) (s : Shape)
    → spec.with_commands app (shapes ++ s ∷ []) ≡ with_subcommand (spec.with_commands app shapes) s
unfolding spec.with_commands
one_more app [] s = refl
one_more app (first ∷ more) s = one_more (with_subcommand app first) more s

-- `pdlab` before its commands
abbrev pub bare : App
bare = spec.with_version (record { top = new_shape (codes "pdlab"); subs = [] })

pub all_commands : (shapes : List Shape) → shapes ≡ spec.lab.subs → spec.with_commands bare shapes ≡ spec.lab
unfolding spec.with_commands spec.lab
all_commands shapes is = ap (spec.with_commands bare) is

pub more_commands : {X : Type 0} (app : App) (f : X → Shape) (xs : List X) (i : ℕ) (d : X) (old new : App) (s : Shape) → i < length xs
    → new ≡ with_subcommand old s → old ≡ spec.with_commands app (map f (take i xs)) → s ≡ f (get_or xs i d)
    → new ≡ spec.with_commands app (map f (take (i + 1) xs))
more_commands app f xs i d old new s here is so_far shape = is ∙ ap (λ a. with_subcommand a s) so_far
    ∙ sym (one_more app (map f (take i xs)) s) ∙ ap (spec.with_commands app) (map_more f xs i d s here shape)

-- a text that grew by three others
pub grown : (s₀ s₁ s₂ s₃ a b c : List ℕ) → s₀ ≡ [] → s₁ ≡ s₀ ++ a → s₂ ≡ s₁ ++ b → s₃ ≡ s₂ ++ c → s₃ ≡ a ++ (b ++ c)
grown s₀ s₁ s₂ s₃ a b c e₀ e₁ e₂ e₃ =
    e₃ ∙ ap (λ s. s ++ c) (e₂ ∙ ap (λ s. s ++ b) (e₁ ∙ ap (λ s. s ++ a) e₀)) ∙ append_assoc a b c
