-- Ports by their numbers, one after the other.
use Rattle.std.proofs.Common.{◌≡◌, ℕ, ◌+◌, List, [], ◌∷◌, ◌++◌, refl, sym, ap, ◌∙◌, append_assoc, map, None, ◌<◌, length, drop, get_or}
use Rattle.std.proofs.lemmas.List.{append-nil, at_drop_more}
use Rattle.pd_setup.specs.Settings.{SettingsData}
use Rattle.pd_warn.specs.declared.warning.Warning.{Warning}
use Rattle.pd_warn.specs.Stated.{share_part, shares_part}
use Rattle.pd_watch.specs.Watch.{WatchData}
use Rattle.pd_warn.specs.Watch.{unmet}
use Rattle.pd_warn.specs.Warnings.{left_part}

shares_first : (budget floors port : ℕ) (s : SettingsData) (ss : List SettingsData)
    → shares_part budget floors port (s ∷ ss) ≡ share_part budget floors port s ++ shares_part budget floors (port + 1) ss
unfolding shares_part
shares_first budget floors port s ss = refl

shares_none : (budget floors port : ℕ) → shares_part budget floors port [] ≡ []
unfolding shares_part
shares_none budget floors port = refl

left_first : (port : ℕ) (w : WatchData) (ws : List WatchData)
    → left_part port (w ∷ ws) ≡ map (unmet port None) w.waiting ++ left_part (port + 1) ws
unfolding left_part
left_first port w ws = refl

left_none : (port : ℕ) → left_part port [] ≡ []
unfolding left_part
left_none port = refl

-- a part is there, and the others are left
joined : (whole out out' part rest all : List Warning) → whole ≡ out ++ all → all ≡ part ++ rest → out' ≡ out ++ part → whole ≡ out' ++ rest
joined whole out out' part rest all so_far first said =
    so_far ∙ ap (λ v. out ++ v) first ∙ sym (append_assoc out part rest) ∙ ap (λ v. v ++ rest) (sym said)

pub more_shares : (whole out out' : List Warning) (budget floors port : ℕ) (s : SettingsData) (ss : List SettingsData)
    → whole ≡ out ++ shares_part budget floors port (s ∷ ss) → out' ≡ out ++ share_part budget floors port s
    → whole ≡ out' ++ shares_part budget floors (port + 1) ss
more_shares whole out out' budget floors port s ss so_far said =
    joined whole out out' _ _ _ so_far (shares_first budget floors port s ss) said

pub all_shares : (whole out : List Warning) (budget floors port : ℕ) → whole ≡ out ++ shares_part budget floors port [] → out ≡ whole
all_shares whole out budget floors port so_far =
    sym (so_far ∙ ap (λ v. out ++ v) (shares_none budget floors port) ∙ append-nil out)

pub more_left : (whole out out' : List Warning) (port : ℕ) (w : WatchData) (ws : List WatchData)
    → whole ≡ out ++ left_part port (w ∷ ws) → out' ≡ out ++ map (unmet port None) w.waiting → whole ≡ out' ++ left_part (port + 1) ws
more_left whole out out' port w ws so_far said = joined whole out out' _ _ _ so_far (left_first port w ws) said

pub all_left : (whole out : List Warning) (port : ℕ) → whole ≡ out ++ left_part port [] → out ≡ whole
all_left whole out port so_far = sym (so_far ∙ ap (λ v. out ++ v) (left_none port) ∙ append-nil out)

-- the next of those that are left
pub next_left : {X Y : Type 0} (of : List X → Y) (xs : List X) (i : ℕ) (x : X) → i < length xs → x ≡ get_or xs i x
    → of (drop i xs) ≡ of (x ∷ drop (i + 1) xs)
next_left of xs i x within is = at_drop_more of xs i x within ∙ ap (λ y. of (y ∷ drop (i + 1) xs)) (sym is)
