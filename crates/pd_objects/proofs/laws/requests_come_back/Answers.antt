use Rattle.pd_objects.specs.RequestObject.{request_word_of}
use Rattle.pd_objects.proofs.Requests.{HasRequestFields-word_of, request_of-word}
use Rattle.pd_objects.proofs.laws.requests_come_back.Goals as goal

pub returns : goal.returns
returns c = λ v h. (HasRequestFields-word_of v h, request_of-word (request_word_of v) v (HasRequestFields-word_of v h))
