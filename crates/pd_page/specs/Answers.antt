-- What a caller is handed.
use Rattle.std.specs.Prelude.{◌≡◌, ℕ, List, ◌++◌, length, take, drop}
use Rattle.pd_page.specs.Endings.{number_of}
use Rattle.pd_page.specs.declared.answer.Answer.{Answer}
use Rattle.pd_page.specs.declared.ending.Ending.{Ending}

-- a room with the first bytes of a text in it, as many as have room, and behind them what stood there before
abbrev pub put : List ℕ → List ℕ → List ℕ
put text room = take (length room) text ++ drop (length text) room

-- an answer is handed over: by the number of its ending, by how long its text is, and by the bytes of it that have room
pub record IsHanded (answer : Answer) (number len : ℕ) (old new : List ℕ) : Type 0 where
  pub number_is : number ≡ number_of answer.ending
  pub len_is : len ≡ length answer.text.items
  pub room_is : new ≡ put answer.text.items old

-- The call ends in a way that is stated, with a text that is stated: the number is that of the ending, so long is the text, and its first
-- bytes stand in the room.
pub record Answers (Ends : Ending → List ℕ → Type 0) (number len : ℕ) (old new : List ℕ) : Type 0 where
  pub ending : Ending
  pub text : List ℕ
  pub ends : Ends ending text
  pub number_is : number ≡ number_of ending
  pub len_is : len ≡ length text
  pub room_is : new ≡ put text old

-- the same of a call whose answer is a number
pub record Counted (Ends : Ending → ℕ → Type 0) (number count : ℕ) : Type 0 where
  pub ending : Ending
  pub ends : Ends ending count
  pub number_is : number ≡ number_of ending
