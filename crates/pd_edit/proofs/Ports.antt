-- The settings with those of one port changed.
use Rattle.std.proofs.Common.{◌≡◌, ℕ, ◌<◌, ◌+◌, ◌==◌, cond, List, [], ◌∷◌, ◌++◌, length, take, get_or, ap, sym, ◌∙◌, arith}
use Rattle.std.proofs.Common.{length-take}
use Rattle.std.proofs.lemmas.List.{take_more}
use Rattle.pd_setup.specs.Settings.{SettingsData}
use Rattle.pd_edit.specs.Edits.{changed_from, changed_port}

changed_last : (first port : ℕ) (change : SettingsData → SettingsData) (settings : List SettingsData) (s : SettingsData) (place : ℕ)
    → place ≡ first + length settings
    → changed_from first port change (settings ++ s ∷ []) ≡ changed_from first port change settings ++ cond (place == port)
    (change s) s ∷ []
changed_last first port change [] s place is = let here : place ≡ first = omega arith in rw here
changed_last first port change (t ∷ settings) s place is =
    ap (λ rest. cond (first == port) (change t) t ∷ rest) (changed_last (first + 1) port change settings s place (omega arith))

pub changed_more : (port : ℕ) (change : SettingsData → SettingsData) (settings : List SettingsData) (i : ℕ) (s : SettingsData)
    → i < length settings → s ≡ get_or settings i s
    → changed_port port change (take (i + 1) settings) ≡ changed_port port change (take i settings) ++ cond (i + 1 == port)
    (change s) s ∷ []
changed_more port change settings i s below is =
    let place : i + 1 ≡ 1 + length (take i settings) = omega (arith, length-take i settings) in
    ap (changed_port port change) (take_more settings i s below)
    ∙ changed_last 1 port change (take i settings) (get_or settings i s) (i + 1) place
    ∙ ap (λ x. changed_port port change (take i settings) ++ cond (i + 1 == port) (change x) x ∷ []) (sym is)
