pub mod Form
pub mod PacketModel
pub mod QuestionForm
pub mod SetForm
pub mod AnswerForm
pub mod Laws
