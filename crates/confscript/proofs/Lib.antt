mod Ended
mod WorkedExamples
